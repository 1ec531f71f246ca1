pub mod OneEachLemmas
pub mod BareLemmas
pub mod EndLemmas
