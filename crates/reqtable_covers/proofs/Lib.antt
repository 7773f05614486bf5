pub mod Applied
pub mod Uncovered
pub mod Through
