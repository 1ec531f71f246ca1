pub mod Answers
pub mod Asked
pub mod Essential
pub mod RequestText
pub mod Shard
