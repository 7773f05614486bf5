pub mod Saying
pub mod NameTexts
pub mod Simplifying
pub mod KeyTexts
pub mod ReadAgain
