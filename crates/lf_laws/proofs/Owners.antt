-- Owners among regions: what is above what, and where owners go round.
pub mod OwnersGoRound
pub mod NewOwner
pub mod PathsOfSets
pub mod ListedBridges
