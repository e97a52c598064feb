pub mod Coverage
pub mod Keys
pub mod Lookups
