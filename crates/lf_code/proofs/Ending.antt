-- That ticked code ends: what is reached, what no action does to ticks, and a measure that each instruction makes less.
pub mod ActionTicks
pub mod Reaching
pub mod Ends
