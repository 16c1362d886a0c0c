pub mod Cells
pub mod Pools
pub mod Fields
