pub mod Counting
pub mod Reading
pub mod ReadOff
pub mod Shown
