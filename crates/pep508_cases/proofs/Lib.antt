pub mod Marks
pub mod Prefixes
pub mod Counting
pub mod Keeping
pub mod Marking
pub mod SetTrees
mod Runs
pub mod Last
pub mod Listing
mod Meet
