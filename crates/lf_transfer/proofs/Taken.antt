-- What a freeze takes: objects taken one after the other, and all of them found row by row.
pub mod TakenObjects
pub mod TakenRows
