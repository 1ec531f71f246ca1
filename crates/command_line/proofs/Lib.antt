pub mod AnswerLemmas
pub mod DeclareLemmas
pub mod NumberLemmas
pub mod WordLemmas
