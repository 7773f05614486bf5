pub mod Joined
pub mod Leaves
pub mod Roots
pub mod Pairs
pub mod Splitting
pub mod Walking
pub mod Passes
pub mod LeafTrees
