pub mod ListLemmas
pub mod Stores
pub mod FieldTable
pub mod LinkedRows
pub mod FlatStores
