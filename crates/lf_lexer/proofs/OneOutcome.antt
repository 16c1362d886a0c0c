-- Each list of bytes is spelled once or refused once, and never both: its outcome as a function.
pub mod Outcomes
pub mod ScriptOutcomes
