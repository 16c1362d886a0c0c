-- Lists of edges, and the store and the table by themselves.
pub mod EdgeTests
pub mod StoreEdges
pub mod TableEdges
pub mod TableBorrows
pub mod TableOwners
-- Both at once.
pub mod CountedEdges
pub mod FieldCounts
pub mod RemovedRow
-- The counts of a state.
pub mod NearCounts
pub mod BridgeNames
pub mod StateEdges
pub mod NewRowCounts
-- Edges of a state, counted by callers.
pub mod LocalWrite
