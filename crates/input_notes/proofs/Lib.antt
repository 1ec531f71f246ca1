pub mod VersionedLemmas
pub mod PinLemmas
pub mod IndexLemmas
pub mod ProviderLemmas
pub mod RecordLemmas
pub mod WordLemmas
