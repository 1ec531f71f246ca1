pub mod Journals
pub mod Lines
pub mod Texts
