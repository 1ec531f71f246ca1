pub mod Begun
pub mod Fault
pub mod Kept
pub mod Planned
pub mod Progress
pub mod Run
pub mod RunFault
