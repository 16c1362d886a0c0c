-- What holds of every list: loops over it, counts of it, a stable sort of it.
pub mod Loops
pub mod Counted
pub mod StableSorts
