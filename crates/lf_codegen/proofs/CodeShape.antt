-- The shape of generated code: it is ticked, and each address that is reached has one number of operands, and enough.
pub mod TickedCode
pub mod Depths
