-- What lies below a region: bridges put into a set in room that is there, all of them found; and values that lead into them.
pub mod FoundBridges
pub mod BelowRegions
