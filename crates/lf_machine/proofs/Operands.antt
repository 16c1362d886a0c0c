-- The last operands, one after another, and the line that they spell.
pub mod SlotsInTurn
pub mod OperandList
pub mod SpelledLines
pub mod PrintedBytes
