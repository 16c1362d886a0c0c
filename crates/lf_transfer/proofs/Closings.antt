-- A close, step by step: the rows that it lets loose, and the states that it comes to.
pub mod FieldSteps
pub mod LooseRows
pub mod ClosedStates
pub mod ClosedSteps
pub mod LooseSteps
pub mod ShutStates
pub mod HeldBridges
pub mod LocalRows
pub mod ShutWalks
pub mod SlotLoops
pub mod SlotPlaces
pub mod SlotSteps
pub mod LooseSuspects
