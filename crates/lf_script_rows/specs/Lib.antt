pub mod RowForms
pub mod ObjectRows
pub mod FaultRows
pub mod ControlRows
pub mod WhenRows
pub mod LimitRows
