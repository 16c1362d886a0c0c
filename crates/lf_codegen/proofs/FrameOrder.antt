-- Frames and the variables of each stand in the order of the script.
pub mod WhenOrder
pub mod VariableOrder
