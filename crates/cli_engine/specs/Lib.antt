pub mod Answer
pub mod Comparison
pub mod Meaning
pub mod Reasons
pub mod Refuted
pub mod Right
pub mod Solution
