pub mod Keys
pub mod Operators
pub mod Values
pub mod Expression
pub mod Warnings
