pub mod Dues
pub mod Judging
pub mod MainRuns
pub mod OneVerdict
pub mod TicksSoFar
pub mod UnbuiltLines
