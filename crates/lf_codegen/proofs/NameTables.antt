-- The tables by name that the code fills: sets of names, and functions.
pub mod SetsOfNames
pub mod FunctionTables
