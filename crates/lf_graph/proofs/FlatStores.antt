-- The rows that the flat tables stand for, after each call, and the parts of a flat store.
pub mod FlatView
pub mod FlatFound
pub mod FlatSteps
pub mod PartRows
pub mod PartMoves
