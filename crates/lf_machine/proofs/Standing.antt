-- Each instruction of valid code leaves the frames where they may stand.
pub mod ManySteps
pub mod ValidParts
pub mod SlotsMoved
pub mod StepStands
