pub mod NextPiece
pub mod LineBytes
pub mod LexSteps
pub mod OneOutcome
pub mod TokenLaws
