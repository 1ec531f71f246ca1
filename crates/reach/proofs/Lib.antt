pub mod LentLemmas
pub mod ListLemmas
pub mod MarkLemmas
pub mod NumberLemmas
pub mod PartLemmas
pub mod ReachLemmas
