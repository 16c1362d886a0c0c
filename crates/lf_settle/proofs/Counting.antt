-- What counts tell: of a state, of the loss of an edge, of a suspect.
pub mod CountsTell
pub mod EdgeNoticed
pub mod EdgeUncounted
pub mod Judged
