pub mod Name
pub mod Hashing
pub mod Origin
