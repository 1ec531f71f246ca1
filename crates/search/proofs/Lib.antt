pub mod ChoiceLemmas
pub mod SetLemmas
