-- States of which all rows stay: what drops nothing, dropping in parts, and that each call leaves such a state.
pub mod NothingDropped
pub mod NewCownKept
pub mod AccessesKeep
pub mod CallsSettle
pub mod AmongKept
pub mod SlotsInParts
pub mod ChangesInParts
pub mod WriteInParts
pub mod CloseInParts
pub mod NotInParts
