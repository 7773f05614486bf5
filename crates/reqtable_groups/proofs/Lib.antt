pub mod Names
pub mod Added
pub mod GroupedLines
pub mod ByName
