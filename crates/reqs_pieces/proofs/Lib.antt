pub mod Writing
pub mod Joined
