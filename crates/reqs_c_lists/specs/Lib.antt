pub mod Refusals
pub mod Commands
pub mod Holding
