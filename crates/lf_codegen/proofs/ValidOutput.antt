-- The code of a script that is fit for code is valid.
pub mod DistinctNames
pub mod VariableNumbers
pub mod WhenFrames
pub mod CallsFit
pub mod FittingCode
pub mod WholeCode
