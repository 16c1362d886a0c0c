-- What a script is answered with: always something, and only one thing.
pub mod Reasons
pub mod Decided
pub mod OneAnswer
