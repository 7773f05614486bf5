pub mod Asks
pub mod Looked
