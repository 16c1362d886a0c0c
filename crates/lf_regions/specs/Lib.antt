pub mod Regions
pub mod RegionChanges
pub mod TableCounts
pub mod NextName
pub mod KeptRegions
