pub mod EndedLemmas
pub mod FetchedLemmas
pub mod FilledLemmas
pub mod ItemLemmas
pub mod RefusalLemmas
pub mod StanzaLemmas
pub mod TextLemmas
pub mod WantedLemmas
