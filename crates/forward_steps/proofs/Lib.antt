pub mod MemberLemmas
pub mod StandingLemmas
pub mod WorkLemmas
pub mod ForwardLemmas
pub mod MemberVersions
pub mod MoveLemmas
pub mod GroupLemmas
