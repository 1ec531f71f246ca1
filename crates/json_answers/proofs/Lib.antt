pub mod FoundLemmas
pub mod ListLemmas
pub mod StepLemmas
pub mod UnpackedLemmas
