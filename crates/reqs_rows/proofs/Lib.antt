pub mod Places
pub mod Putting
pub mod Going
pub mod Ready
