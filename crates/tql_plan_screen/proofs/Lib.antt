-- Proofs of tql_plan_screen.
pub mod Booleans
pub mod Added
pub mod Turned
pub mod Comparisons
pub mod ChoicesMet
pub mod StoredColumns
pub mod PartsMet
pub mod Gained
pub mod Searched
pub mod Tests
pub mod Served
pub mod Enough
