pub mod ChoiceLemmas
pub mod LiftLemmas
