-- Names and keys: when two are one, their order, and the names of rows.
pub mod SameNames
pub mod PairOrder
pub mod NameOrder
pub mod RowNames
