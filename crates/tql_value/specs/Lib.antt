pub mod JiffDate
pub mod Laws
pub mod Literals
pub mod Points
pub mod Refusals
pub mod Views
pub mod When
