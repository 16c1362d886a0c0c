-- What follows for whole scripts: tokens that are spelled can be read, what is read is exact, lines that are too long are refused,
-- and tokens have one tree or one refusal.
pub mod ReadableTokens
pub mod LongLines
pub mod ExactReading
pub mod WithLineLimit
pub mod TreeOrRefused
pub mod LawsOfTrees
