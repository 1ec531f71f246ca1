pub mod AscendingLemmas
pub mod Changed
pub mod PlaceLemmas
pub mod ListedLemmas
pub mod NamedChanges
