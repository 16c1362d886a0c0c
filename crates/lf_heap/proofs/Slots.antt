-- Slots that come, go and change.
pub mod SlotPlaces
pub mod SlotLosses
pub mod SlotParts
