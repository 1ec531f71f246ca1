pub mod Judged
pub mod Naming
pub mod Numbering
