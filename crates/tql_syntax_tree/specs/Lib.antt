pub mod Expressions
pub mod Conditions
pub mod Statements
pub mod Trees
