pub mod Cuts
pub mod FaultRows
pub mod Pieces
pub mod Skips
pub mod SpellingLemmas
