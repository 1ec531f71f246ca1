pub mod LineLemmas
pub mod RequestLemmas
mod RequestRows
