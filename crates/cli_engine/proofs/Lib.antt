pub mod AnswerLemmas
pub mod NameLemmas
pub mod RefutedLemmas
pub mod RightLemmas
pub mod SolvableLemmas
pub mod ToldLemmas
