pub mod SplitTwice
pub mod GoodVersions
pub mod FieldsMore
pub mod GoodFields
pub mod KindLemmas
