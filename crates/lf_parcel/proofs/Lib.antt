pub mod Beginnings
pub mod Trees
pub mod Orders
