pub mod LeadingLemmas
pub mod OneEachLemmas
pub mod OrderLemmas
pub mod PlanLemmas
