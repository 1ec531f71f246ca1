pub mod ApartLemmas
pub mod EndLemmas
pub mod SatisfiedLemmas
pub mod QuietLemmas
