pub mod Marks
pub mod Reached
