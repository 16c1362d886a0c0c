pub mod IdOrder
pub mod Members
pub mod RisenRows
pub mod NextRows
pub mod Searches
pub mod TableLists
pub mod Drafts
pub mod RowLaws
