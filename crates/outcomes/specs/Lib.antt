pub mod Answer
pub mod Exit
pub mod Outcome
pub mod Survey
