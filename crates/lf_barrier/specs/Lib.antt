pub mod MovingEdges
pub mod WritePlans
pub mod ContentWrites
pub mod Surveys
pub mod Descents
