pub mod Cut
pub mod Error
pub mod Group
pub mod Plan
pub mod StepLine
pub mod Word
