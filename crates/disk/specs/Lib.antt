pub mod Calls
pub mod Crash
pub mod Facts
pub mod Memory
pub mod RunLaws
