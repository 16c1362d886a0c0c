-- What a merge and a dissolving make of a state's counts, and what they are refused for.
pub mod RegionEdges
pub mod MergedCounts
pub mod DissolvedCounts
pub mod Refusals
