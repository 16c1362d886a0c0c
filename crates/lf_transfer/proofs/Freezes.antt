-- A freeze: the plan's rows and regions, the borrows that are lost, and the counts afterwards.
pub mod FrozenRows
pub mod LostBorrows
pub mod LostRegions
pub mod FrozenCounts
pub mod BareRegions
