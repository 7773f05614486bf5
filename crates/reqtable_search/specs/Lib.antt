pub mod Told
pub mod InRun
