pub mod Membership
pub mod Pass
pub mod Turning
pub mod Reading
pub mod Comparing
pub mod Searching
pub mod Spanning
pub mod Apart
