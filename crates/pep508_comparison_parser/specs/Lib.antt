pub mod Compared
pub mod SideReading
pub mod Stops
pub mod Notices
pub mod Outcome
