pub mod AloneLaws
mod Fronts
pub mod Refused
pub mod Turns
mod Views
