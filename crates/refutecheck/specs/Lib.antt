pub mod Answer
pub mod Falses
pub mod Following
pub mod Open
pub mod Sought
