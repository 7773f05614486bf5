pub mod Places
pub mod Sorted
pub mod Falling
pub mod Gaps
pub mod Passing
pub mod Stopping
