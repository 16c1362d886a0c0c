-- A heap's calls: what holds between two of them, and what becomes of operands.
pub mod Rests
pub mod OperandSlots
pub mod SlotsAfter
