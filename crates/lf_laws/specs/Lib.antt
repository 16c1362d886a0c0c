pub mod Scripts
pub mod WorkedRows
pub mod CallScripts
pub mod HeapRows
