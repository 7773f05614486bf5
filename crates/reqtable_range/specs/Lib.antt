pub mod Together
pub mod Sorting
pub mod One
pub mod Sifting
