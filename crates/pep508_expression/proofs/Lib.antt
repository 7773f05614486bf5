pub mod Points
pub mod TextPoints
pub mod MadeTrees
pub mod Nowhere
pub mod Raising
