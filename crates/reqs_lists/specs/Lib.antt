pub mod Lists
pub mod Normal
pub mod Contradictions
pub mod Comparison
pub mod Covered
