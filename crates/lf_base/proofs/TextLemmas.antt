-- A script's texts: as lists without repeats, and as the keys of the set that keeps them.
pub mod TextLists
pub mod TextKeys
