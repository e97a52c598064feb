pub mod Drafts
pub mod ColumnLaws
pub mod ListLaws
pub mod Sequences
pub mod Gathered
pub mod PeriodLaws
