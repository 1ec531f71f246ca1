pub mod StateRecord
pub mod Holders
pub mod HolderLaws
pub mod Packages
pub mod InstalledLaws
