-- Tables of regions in which one region takes the borrows of another one, which ends, and in which references borrow what they owned.
pub mod JoinedRegions
pub mod LocalReferences
pub mod LocalRows
