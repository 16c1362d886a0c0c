-- Where a write shows its faults: never for a local target; into a region by the edges that it touches; and where a content does.
pub mod LocalWrites
pub mod WrittenRegion
pub mod OwnersCounted
pub mod InteriorShown
pub mod OwnersRound
pub mod Refusals
pub mod Contents
