pub mod Normalized
pub mod Bounded
pub mod Errors
pub mod Seen
pub mod Meant
