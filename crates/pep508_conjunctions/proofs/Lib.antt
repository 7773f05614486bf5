pub mod Meets
pub mod Sources
pub mod Orders
