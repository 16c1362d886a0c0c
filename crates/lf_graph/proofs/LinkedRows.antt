-- The rows of all owners, linked in their order.
pub mod RowTableSteps
pub mod ChainLemmas
pub mod ChainWrites
pub mod ChainMoves
