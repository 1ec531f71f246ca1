pub mod Causes
pub mod Core
pub mod GoalCauses
pub mod Offers
pub mod Reasons
pub mod Sentences
pub mod Words
