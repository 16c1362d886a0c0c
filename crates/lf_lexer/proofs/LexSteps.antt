-- What the walk over the bytes adds, a step at a time: pieces, levels, lines.
pub mod Adding
pub mod PieceSteps
pub mod LevelSteps
pub mod FilledLines
pub mod LineSteps
