pub mod Derived
pub mod Index
pub mod LineText
pub mod Pair
pub mod PremiseWords
pub mod Seen
pub mod Text
