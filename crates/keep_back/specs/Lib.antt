pub mod Back
pub mod Further
pub mod KeptBack
pub mod Reason
pub mod Round
