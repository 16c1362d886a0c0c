pub mod Counts
pub mod OneEdge
