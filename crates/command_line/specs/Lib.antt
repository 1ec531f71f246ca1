pub mod Joined
pub mod Place
pub mod Program
pub mod Number
pub mod Asked
pub mod Values
pub mod Spelled
