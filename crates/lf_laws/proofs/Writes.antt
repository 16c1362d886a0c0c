-- Writes of fields: what moves, what stays, and that a write is refused exactly where its result isn't well-formed.
pub mod NoFaultShown
pub mod MovedRows
pub mod WrittenEdges
pub mod Relabelling
pub mod CownNames
pub mod WriteLaw
pub mod OwnersAfterWrite
pub mod WriteShows
