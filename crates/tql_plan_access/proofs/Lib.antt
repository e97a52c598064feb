-- Proofs of tql_plan_access.
pub mod ByKey
pub mod Parted
pub mod Picked
pub mod Chosen
pub mod Distinct
pub mod GivenLists
pub mod InRange
pub mod Looked
pub mod SafePart
pub mod Serving
pub mod Untouched
pub mod ByPeriod
pub mod OneColumn
