pub mod Known
pub mod Settings
pub mod Slots
