pub mod StepLemmas
pub mod SoundLemmas
pub mod NewlineLemmas
pub mod FetchedLemmas
pub mod RunLemmas
pub mod EndLemmas
pub mod BegunLemmas
