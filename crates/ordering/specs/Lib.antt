pub mod Leading
pub mod Ordering
