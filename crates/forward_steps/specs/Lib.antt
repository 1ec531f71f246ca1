pub mod Selection
pub mod Forward
pub mod Work
pub mod Group
pub mod PartialPlan
