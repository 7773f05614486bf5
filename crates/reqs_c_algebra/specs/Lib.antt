pub mod Relations
pub mod Keys
pub mod Made
pub mod Arguments
pub mod Simplified
