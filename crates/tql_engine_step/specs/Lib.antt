pub mod Lending
pub mod HoldPoints
