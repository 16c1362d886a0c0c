-- Dropping: what stays, what hangs on a suspect, what counts show, and the state that is left.
pub mod KeptRows
pub mod BorrowedRegions
pub mod RowsInPlace
pub mod HangingIsWatched
pub mod CountsJustifyDropping
pub mod SuspectsDecided
pub mod HangingRows
pub mod RowsWithout
pub mod LeftRows
pub mod KeptState
pub mod EndState
