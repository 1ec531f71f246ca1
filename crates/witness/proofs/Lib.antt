pub mod ClauseLemmas
pub mod StopLemmas
pub mod TurnLemmas
