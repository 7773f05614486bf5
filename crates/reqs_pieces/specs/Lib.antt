pub mod Pieces
pub mod Waiting
