-- The rows of a region and the fields of a row, gone over one by one.
pub mod RegionWalk
pub mod References
