pub mod Variables
pub mod Asked
pub mod Opened
pub mod Exits
pub mod Source
