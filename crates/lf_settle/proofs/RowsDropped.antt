-- What dropping makes of rows, fields and regions: a row and its fields, what is left, and a region and its rows.
pub mod FieldsDropped
pub mod EmptiedRow
pub mod LeftParts
pub mod RemovedRows
pub mod EmptiedRegion
pub mod RegionDropped
