pub mod Places
pub mod Index
pub mod UnitRows
pub mod RowLists
pub mod Units
pub mod Pools
pub mod PoolViews
pub mod NarrowRows
