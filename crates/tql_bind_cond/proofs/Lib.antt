pub mod ComparisonLaws
pub mod ConjunctLaws
pub mod Lists
pub mod PeriodLaws
pub mod SoleLaws
pub mod Views
