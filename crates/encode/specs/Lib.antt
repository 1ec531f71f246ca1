pub mod Against
pub mod Basis
pub mod Encoding
pub mod Goals
pub mod Growing
pub mod Numbers
pub mod Starts
pub mod Selection
