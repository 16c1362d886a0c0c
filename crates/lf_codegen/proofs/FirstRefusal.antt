-- The refusals of a tree one by one, and that the kept one is the first of them.
pub mod Judging
pub mod First
pub mod RefusalPlaces
