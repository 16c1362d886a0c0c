-- What questions answer.
pub mod CountsAsked
pub mod WithoutSlot
