-- Rows of a state: found by name, with their owners, their edges, and rows put among others.
pub mod OwnerTests
pub mod RowsByName
pub mod RowsInOrder
pub mod RowEdges
pub mod EdgeSources
pub mod EdgeCounts
pub mod InsertedRows
pub mod MappedRows
