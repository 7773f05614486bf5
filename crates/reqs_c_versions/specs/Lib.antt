pub mod Versions
pub mod Specifiers
pub mod Ranges
