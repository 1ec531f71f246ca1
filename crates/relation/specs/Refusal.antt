-- The refusal of a value, which `relation_text` defines and the crates above cite.
pub use Rattle.relation_text.specs.Refusal.{fault_of}
