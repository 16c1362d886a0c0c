-- What a check of code finds: variables that are named once, and the operands at each address that is reached.
pub mod NewNumbers
pub mod SlotsSet
pub mod WalkSteps
