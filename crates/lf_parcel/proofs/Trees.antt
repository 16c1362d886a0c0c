-- Region trees: they stand behind any cown, and the stored rows of a tree's regions are those that its content owns.
pub mod StandsAnywhere
pub mod StoredRegions
pub mod TreesOut
