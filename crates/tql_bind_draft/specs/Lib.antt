pub mod Drafts
pub mod PeriodNames
