pub mod Words
pub mod Inputs
pub mod Pinned
pub mod Idle
pub mod Indices
pub mod Keys
pub mod Providers
pub mod Absent
