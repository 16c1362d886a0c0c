-- Contents of cowns by themselves: the parts that they have of a state, their trees of regions, and that they stand alone and together.
pub mod PartsApart
pub mod PartsCover
pub mod PartsAreTrees
pub mod TreesApart
pub mod TreeCounts
pub mod EndIsClosed
pub mod PartsOfStates
pub mod JoinedContents
pub mod JoinedRows
pub mod ContentsStand
pub mod StoredContents
pub mod ContentsReturn
