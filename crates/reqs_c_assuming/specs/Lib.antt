pub mod Assuming
pub mod Assumptions
