pub mod Conjuncts
pub mod Ends
pub mod SoleNames
