pub mod Heaps
pub mod Accesses
pub mod Contents
pub mod Openness
pub mod Following
pub mod Suspecting
