pub mod Left
pub mod PlaceTables
pub mod Scopes
