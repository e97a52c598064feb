pub mod ByColumns
pub mod FoundAny
pub mod Joinings
pub mod Looked
pub mod OneOf
pub mod Open
pub mod Screened
