-- That a tree has its names and the lines of its statements in the order of the script: how items stand among tokens, what each
-- rule adds to them, and how those of the functions and those of main are one list.
pub mod AddedItems
pub mod MergedLists
pub mod FunctionsAndMain
pub mod NamesInTokenOrder
pub mod ExpressionNamesInOrder
pub mod StatementNamesInOrder
pub mod ScriptNamesInOrder
pub mod LinesInTokenOrder
pub mod StatementLinesInOrder
pub mod ScriptLinesInOrder
