pub mod Ready
pub mod Queues
pub mod Counts
pub mod Lines
