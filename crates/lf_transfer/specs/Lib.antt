pub mod RegionRows
pub mod Merging
pub mod Dissolving
pub mod Taking
pub mod Below
pub mod LooseNames
pub mod Freezing
pub mod Closing
