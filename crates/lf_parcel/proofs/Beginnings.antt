-- Contents that are put together: their stored rows are those of the state with which a behaviour begins.
pub mod RowsApart
pub mod StoredTogether
pub mod CountsTogether
