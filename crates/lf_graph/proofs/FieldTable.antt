-- The fields of all rows in one table.
pub mod CellMaps
pub mod CellLists
pub mod FieldPairs
pub mod FieldCopies
