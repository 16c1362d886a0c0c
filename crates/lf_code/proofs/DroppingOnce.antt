-- Dropping after each part of an instruction is dropping once behind all of them.
pub mod SlotLists
pub mod PlainResults
pub mod PartsAtOnce
