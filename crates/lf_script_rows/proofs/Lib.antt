pub mod LongRuns
pub mod ObjectRowsComputed
pub mod FaultRowsComputed
pub mod ControlRowsComputed
pub mod WhenRowsComputed
pub mod LimitRowsComputed
