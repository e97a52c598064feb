pub mod Outcome
pub mod ReadingExpressions
pub mod ReadingStatements
pub mod ReadingTexts
pub mod ReadingRuns
pub mod Laws
pub mod Texts
