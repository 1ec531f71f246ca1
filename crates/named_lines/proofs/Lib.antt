pub mod EachLemmas
pub mod JudgedLemmas
pub mod NumberLemmas
pub mod RoundLemmas
