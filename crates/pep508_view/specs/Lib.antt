pub mod Edges
pub mod Reading
pub mod Sameness
pub mod SamenessLaws
pub mod Views
pub mod ReadOff
pub mod Shown
