pub mod Fetched
pub mod Filled
pub mod Opened
pub mod Stanzas
pub mod Texts
pub mod Wanted
