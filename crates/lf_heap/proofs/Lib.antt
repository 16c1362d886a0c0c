pub mod States
pub mod Slots
pub mod Fields
pub mod CownContents
pub mod Regions
pub mod RegionWalks
pub mod Answered
pub mod Calls
