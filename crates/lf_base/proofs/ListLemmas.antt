-- Lists over any kind of item: members, tests, sums, parts in order, sets that a rule picks out, and lists in links.
pub mod Members
pub mod Filters
pub mod Tests
pub mod Sums
pub mod SlotCounts
pub mod Sublists
pub mod GreatestSets
pub mod LeastSets
pub mod LinkedLists
