pub mod Forms
pub mod Joining
pub mod Leaves
pub mod Pairing
pub mod Walks
pub mod Trees
