pub mod Heads
pub mod Parcels
pub mod RowsTold
pub mod Spots
pub mod Contents
pub mod Packed
pub mod TreeRows
