pub mod Admission
pub mod Asks
pub mod Answer
pub mod Rows
pub mod Says
pub mod Groups
pub mod Ranged
