pub mod Terms
pub mod Words
pub mod WordLaws
pub mod Near
pub mod Sparing
pub mod Apart
pub mod Operators
pub mod Texts
