-- The other changes of a state: each leaves it well-formed.
pub mod FirstState
pub mod SameOwners
pub mod FurtherSlot
pub mod NewRows
pub mod FewerFields
pub mod ContentChange
pub mod ContentLaw
pub mod Freezing
pub mod RelabelledRegion
pub mod Dissolving
pub mod Merging
pub mod ReadValues
