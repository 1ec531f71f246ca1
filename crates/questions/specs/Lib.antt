pub mod Member
pub mod Asked
pub mod Question
pub mod Refused
