pub mod TwoRegions
pub mod OwnedRegion
pub mod SettledRows
pub mod LocalChains
pub mod FrozenBatches
pub mod BorrowedInner
