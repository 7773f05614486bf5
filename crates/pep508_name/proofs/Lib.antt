pub mod Walk
pub mod Same
pub mod Parts
pub mod Steps
pub mod Again
pub mod Escaped
pub mod Forms
pub mod AsciiNames
