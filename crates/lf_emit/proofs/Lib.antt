pub mod Counts
pub mod Emitted
pub mod Pieces
pub mod StatementForms
pub mod PlaceTables
pub mod Asking
pub mod WholeCode
