pub mod Parsed
pub mod Refused
pub mod Texts
pub mod Python
