pub mod Apart
pub mod End
