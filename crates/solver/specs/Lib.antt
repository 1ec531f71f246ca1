pub mod Decided
pub mod Solvable
pub mod Solved
