pub mod AlikeLemmas
pub mod BothLemmas
pub mod EndLemmas
pub mod SelectionLemmas
