pub mod AskedLemmas
pub mod DecidableLemmas
pub mod NamedLemmas
pub mod OrderLemmas
pub mod ShardLemmas
