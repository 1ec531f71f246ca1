pub mod FirstGoal
pub mod Least
