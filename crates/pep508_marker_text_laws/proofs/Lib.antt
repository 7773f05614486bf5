pub mod Removals
pub mod Said
pub mod Where
pub mod SameDiagrams
pub mod Grouped
pub mod Walks
pub mod Speaking
pub mod Truths
pub mod Fitting
pub mod Disjunctions
pub mod Spelled
mod Examples
