pub mod Asked
pub mod Texts
pub mod Seen
pub mod Ready
