-- Fields that are read, taken and written.
pub mod PlacesNamed
pub mod FrozenFields
pub mod FieldReads
pub mod FieldTakes
pub mod FieldWrites
