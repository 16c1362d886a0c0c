-- What is mentioned by expressions, statements and frames, and in which order it is walked over.
pub mod Arguments
pub mod Visiting
pub mod MentionedNames
