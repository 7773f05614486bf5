pub mod Copied
pub mod Gathered
pub mod Standing
pub mod Few
pub mod Among
pub mod Passing
pub mod Asked
