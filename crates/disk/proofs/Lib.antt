pub mod CallRows
pub mod CrashLemmas
pub mod KeptCalls
pub mod TornWrites
