pub mod Change
pub mod Counted
pub mod Laws
pub mod Order
pub mod PhaseLaws
pub mod Underway
pub mod Walk
pub mod WalkLaws
