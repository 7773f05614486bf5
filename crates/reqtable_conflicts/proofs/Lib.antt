pub mod Picked
pub mod Conflicting
pub mod Numbered
pub mod ReadFrom
pub mod Taken
pub mod Agreed
