-- The bridges that regions own by their rows, and all regions below the bridges that a write touches.
pub mod OwnedRegions
pub mod OwnedBelow
