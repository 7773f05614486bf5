pub mod Expressions
pub mod Trees
pub mod Raising
