pub mod PieceLemmas
pub mod HeardLemmas
