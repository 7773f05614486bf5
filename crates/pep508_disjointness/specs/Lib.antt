pub mod Left
pub mod Pairs
pub mod Sides
