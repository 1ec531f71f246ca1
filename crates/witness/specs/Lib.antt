pub mod Found
pub mod Needed
pub mod Turn
pub mod Witness
