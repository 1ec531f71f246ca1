pub mod Cut
pub mod Error
pub mod GoalText
pub mod Request
pub mod Words
