pub mod MemberLemmas
pub mod NameLemmas
pub mod LeftLemmas
pub mod LoopLemmas
pub mod PackageLemmas
pub mod ReadyLemmas
