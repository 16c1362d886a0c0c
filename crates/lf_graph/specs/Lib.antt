-- The rows of every store, and what its calls make of them.
pub mod StoredRows
pub mod RowOrder
pub mod RowChanges
pub mod StoreCounts
pub mod Room
pub mod Parts
-- The tables of a flat store: rows, their lists, and their fields.
pub mod RowTables
pub mod RegionEnds
pub mod Chains
pub mod ChainMaps
pub mod Cells
-- The rows that the tables stand for.
pub mod FlatRows
pub mod FlatParts
