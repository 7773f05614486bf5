pub mod Asked
pub mod Conflicting
pub mod Standing
