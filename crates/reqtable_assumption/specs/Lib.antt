pub mod Where
pub mod Restricted
