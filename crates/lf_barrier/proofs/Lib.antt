pub mod MovingEdges
pub mod FieldWrites
pub mod ContentCalls
pub mod Surveys
pub mod Descents
