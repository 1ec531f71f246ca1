pub mod Changes
pub mod No
pub mod Told
