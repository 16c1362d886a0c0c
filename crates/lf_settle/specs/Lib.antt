-- The list of suspects, and what is handed to settling.
pub mod WorkLists
pub mod SettledStates
-- Edges that are lost, and what is noticed of them.
pub mod LostEdges
-- What must go because of one suspect.
pub mod Verdicts
-- What dropping it makes of store, table and list.
pub mod Drops
-- The loops: over a row's fields, over a region's rows, over the suspects.
pub mod Walks
