pub mod Causes
pub mod Streams
pub mod Transfer
pub mod Memory
pub mod Adapters
