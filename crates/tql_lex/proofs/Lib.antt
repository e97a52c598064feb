pub mod QuoteLemmas
pub mod GapLemmas
pub mod TokensLemmas
pub mod EdgeLemmas
pub mod PlaceLemmas
pub mod WordLemmas
pub mod SoleWordLemmas
