-- The edges of a state after each change, whatever is asked of them.
pub mod EdgeParts
pub mod FieldEdges
pub mod OwnerEdges
pub mod SlotEdges
pub mod FrozenEdges
pub mod RowsGone
pub mod ClosedEdges
pub mod GivenRows
pub mod GivenRegions
pub mod NamedRows
pub mod NamedTargets
pub mod Cells
pub mod FrozenCounts
