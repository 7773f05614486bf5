pub mod Covering
pub mod Applying
