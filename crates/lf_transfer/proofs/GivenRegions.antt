-- The rows of a region, given to another owner one by one, and the room that they need.
pub mod RegionCells
pub mod GivenRegion
