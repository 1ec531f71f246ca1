pub mod EndLemmas
pub mod GoalLemmas
pub mod LeastLemmas
