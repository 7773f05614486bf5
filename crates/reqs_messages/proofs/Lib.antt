pub mod Plain
pub mod Told
pub mod Refused
