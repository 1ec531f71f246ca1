pub mod GoodPlan
pub mod Planned
pub mod Prepared
