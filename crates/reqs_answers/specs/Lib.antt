pub mod Texts
pub mod Check
pub mod Matrix
pub mod Frames
pub mod Ready
pub mod Strict
