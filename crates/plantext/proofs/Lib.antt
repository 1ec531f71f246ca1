pub mod AgainLemmas
pub mod ByteLemmas
pub mod GroupLemmas
pub mod PartLemmas
pub mod PlanLemmas
mod PlanRows
pub mod WrittenLemmas
