-- What follows from the words of the contract alone, for every store.
pub mod Reordered
pub mod Changes
pub mod StateRows
pub mod RowLists
pub mod RowOrder
pub mod Walks
pub mod FieldWalks
pub mod AfterCalls
pub mod RowsByOwner
