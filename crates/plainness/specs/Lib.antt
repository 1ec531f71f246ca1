pub mod Members
pub mod Names
pub mod Parts
