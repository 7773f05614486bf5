pub mod TextLines
pub mod CandidateLine
pub mod CandidateText
pub mod Candidates
pub mod Fronts
pub mod Heads
pub mod Ordered
pub mod Errors
