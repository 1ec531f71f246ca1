pub mod WordLemmas
pub mod NameLemmas
pub mod ItemLemmas
pub mod RecordLemmas
pub mod GreatestLemmas
