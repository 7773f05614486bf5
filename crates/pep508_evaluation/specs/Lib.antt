pub mod Valuations
pub mod Steps
pub mod Warned
pub mod Edges
