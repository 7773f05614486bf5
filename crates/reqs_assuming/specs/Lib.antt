pub mod Conditions
pub mod Assumptions
pub mod Lists
pub mod Restricted
pub mod Comparison
pub mod Covered
pub mod Contradictions
