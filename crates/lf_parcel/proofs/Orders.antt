-- The rows of parts in the order of their names: put so at once, or looked for one after the other.
pub mod RisingNames
pub mod NamesOnce
pub mod LeastNames
pub mod PartRows
pub mod PartsInTurn
pub mod RowsInTurn
pub mod RowsAtSpots
