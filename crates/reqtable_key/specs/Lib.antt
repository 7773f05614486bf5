pub mod Heads
pub mod Keys
pub mod Entries
