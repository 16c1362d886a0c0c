pub mod Walks
pub mod GivenRegions
pub mod Tables
pub mod States
pub mod Taken
pub mod RegionsBelow
pub mod Freezes
pub mod Closings
