pub mod CandidateOrder
pub mod Numbering
pub mod PairOrder
pub mod StartNames
