pub mod Offers
pub mod Prefix
pub mod OfferLaws
pub mod Matching
pub mod Range
pub mod Spans
