pub mod DenoteLemmas
pub mod DistinctLemmas
mod EachLemmas
pub mod IndicesLemmas
pub mod MeaningLemmas
pub mod NameLemmas
pub mod ReadAsLemmas
pub mod ReadByLemmas
pub mod UnreadLemmas
