pub mod Texts
pub mod Extras
pub mod EachEnvironment
pub mod Reading
pub mod Steps
pub mod Unbounded
pub mod InOtherWords
