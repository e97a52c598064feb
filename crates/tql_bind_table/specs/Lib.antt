pub mod Binds
pub mod KeyLists
pub mod NewTables
