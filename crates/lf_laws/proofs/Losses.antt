-- Losses of edges: how counts and what is justified fall, that losses follow each other and are noticed, and writes too.
pub mod CountsFall
pub mod LossesFollow
pub mod ManyLosses
pub mod OneLoss
pub mod LostEdges
pub mod LossesNoticed
pub mod DroppedSets
pub mod WriteNoticed
pub mod MergeNoticed
pub mod FreezeNoticed
pub mod DissolveNoticed
pub mod ContentNoticed
pub mod SlotsNoticed
pub mod EmptiedRows
