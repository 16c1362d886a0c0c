-- The regions that a walk over stored rows lists: each once, and all that lie below one.
pub mod FoundLists
pub mod RowsLooked
pub mod OwnedOnce
pub mod WalksDown
pub mod ChildrenCounted
