mod DocumentLemmas
mod LineLemmas
mod PrintingLemmas
