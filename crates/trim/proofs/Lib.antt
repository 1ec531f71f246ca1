pub mod ItemLemmas
pub mod ClauseLemmas
pub mod MarkLemmas
pub mod KeptLemmas
pub mod EndLemmas
