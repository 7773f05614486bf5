pub mod Building
pub mod Tokens
pub mod Telling
pub mod Levels
