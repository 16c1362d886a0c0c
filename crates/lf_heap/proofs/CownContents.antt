-- Contents of cowns: where they stand, what is written to them, and cowns that are made.
pub mod HeldPlaces
pub mod ContentWrites
pub mod CownsMade
