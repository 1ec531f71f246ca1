pub mod DropLemmas
pub mod NameSetLemmas
pub mod PartLemmas
pub mod SingleLemmas
