pub mod Comparisons
pub mod Unions
