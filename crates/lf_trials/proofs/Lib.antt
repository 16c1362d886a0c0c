pub mod TwoRegions
pub mod SettledRows
pub mod BarrierStates
pub mod FrozenTarget
pub mod OwnedRegion
pub mod LocalChains
pub mod FrozenBatches
pub mod BorrowedInner
