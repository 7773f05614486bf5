pub mod Contradictions
pub mod Picking
pub mod NothingTaken
pub mod Agreeing
