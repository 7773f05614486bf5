pub mod Simplified
pub mod Parts
pub mod Named
pub mod Pending
pub mod Within
pub mod Narrowed
