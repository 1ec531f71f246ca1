pub mod Derived
pub mod Error
pub mod LineText
pub mod Number
pub mod PremiseWords
pub mod Text
