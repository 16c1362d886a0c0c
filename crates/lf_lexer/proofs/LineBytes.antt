-- Of the bytes that are left of a script, those of the line that they begin with.
pub mod LineRests
pub mod Spaces
