pub mod Ending
pub mod DroppingOnce
pub mod Checks
pub mod Numbered
