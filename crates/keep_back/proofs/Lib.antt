pub mod KeepLemmas
pub mod MarkLemmas
