-- Rows that move by a write, edge by edge: their edges are taken out of the counts, the rows given to a region, their edges counted again.
pub mod FieldLoops
pub mod GivenRow
pub mod RowLoops
