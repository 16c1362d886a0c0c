pub mod NameCompare
pub mod RegionNames
pub mod ChangeLaws
pub mod RegionNumbers
pub mod KeptRegions
pub mod Places
pub mod NextNames
