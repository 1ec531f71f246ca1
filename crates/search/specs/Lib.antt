pub mod Choice
pub mod Found
pub mod Set
