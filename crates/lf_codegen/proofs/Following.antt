-- That generated code does what the tree means: no piece gives ticks back, the code of each form, calls, and whole bodies.
pub mod Ticks
pub mod Runs
pub mod Calls
pub mod Whole
