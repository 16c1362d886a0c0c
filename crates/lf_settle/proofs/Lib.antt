pub mod SuspectLists
pub mod Counting
pub mod RowsDropped
pub mod Rounds
