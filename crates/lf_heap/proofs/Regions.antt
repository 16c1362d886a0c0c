-- Regions that are merged and dissolved, and rows that freeze.
pub mod BridgeValues
pub mod MergedParts
pub mod DissolvedParts
pub mod FrozenParts
pub mod ClosedParts
