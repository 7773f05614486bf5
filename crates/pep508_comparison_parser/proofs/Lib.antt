pub mod Tellings
pub mod Warned
pub mod Runs
