-- What changes bring of names and cowns: objects of the behaviour's own birth, and cowns that it makes.
pub mod KnownCowns
pub mod ChangesBring
pub mod CallsBring
