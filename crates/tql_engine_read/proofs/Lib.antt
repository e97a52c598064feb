pub mod SenseLaws
pub mod Joining
pub mod KnownKinds
pub mod ReaderNames
pub mod ColumnKinds
pub mod Reading
