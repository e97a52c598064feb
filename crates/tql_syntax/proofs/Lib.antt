pub mod NestingLemmas
pub mod Outcomes
pub mod TextLaws
pub mod EndingLaws
