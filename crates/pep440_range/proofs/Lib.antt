mod Answered
mod Halves
pub mod Orderings
pub mod Prefixes
pub mod Fronts
pub mod Stars
pub mod Tails
pub mod Sides
pub mod Agreeing
pub mod Lists
pub mod Simple
pub mod ReleaseRanges
pub mod Complements
pub mod NextNumbers
pub mod Intervals
pub mod Unions
pub mod InOrder
pub mod SetIntervals
pub mod Neither
