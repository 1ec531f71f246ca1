pub mod Goals
pub mod Spelled
pub mod Upgraded
