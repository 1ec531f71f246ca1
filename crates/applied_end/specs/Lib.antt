pub mod Step
pub mod Sound
pub mod Text
pub mod Run
pub mod End
