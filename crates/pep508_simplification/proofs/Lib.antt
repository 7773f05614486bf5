pub mod Rooted
pub mod Naming
pub mod Counting
pub mod Walking
pub mod Cutting
pub mod Narrowing
pub mod Simplifying
pub mod Signing
