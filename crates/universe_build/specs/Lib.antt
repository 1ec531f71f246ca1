pub mod Build
pub mod ByName
pub mod Choice
pub mod ChoiceLaws
pub mod Error
pub mod Listing
