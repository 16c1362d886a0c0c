pub mod FrozenRows
pub mod Entries
pub mod Drafts
