pub mod FaultLemmas
pub mod KeptLemmas
pub mod LeftLemmas
pub mod PlanLemmas
pub mod ProgressLemmas
