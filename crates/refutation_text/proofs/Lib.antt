pub mod AgainLemmas
pub mod ByteLemmas
pub mod DigitLemmas
pub mod DistinctLemmas
pub mod LineLemmas
pub mod NumberLemmas
pub mod ReadLemmas
mod RefutationRows
pub mod WrittenLemmas
