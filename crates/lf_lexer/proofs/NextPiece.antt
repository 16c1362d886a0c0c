-- What stands next on a line: a token, a space, an end or a refusal. The code computes it, the definitions relate it.
pub mod Digits
pub mod Prefixes
pub mod TextBytes
pub mod TextEnds
pub mod Fronts
pub mod LineFronts
