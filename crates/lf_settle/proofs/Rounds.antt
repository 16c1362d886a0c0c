-- From one suspect to the next.
pub mod OneSuspect
pub mod AllSuspects
-- For callers.
pub mod SlotUnset
