-- The state that a heap's parts stand for, and what a call does to it.
pub mod StoredStates
pub mod FirstParts
pub mod Steps
pub mod NewRows
pub mod Settling
