pub mod Places
pub mod Tests
pub mod Spaces
pub mod Cuts
pub mod TextCuts
pub mod Steps
