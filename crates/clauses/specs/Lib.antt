pub mod Clauses
pub mod Clause
pub mod Cut
