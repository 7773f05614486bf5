pub mod Ranks
pub mod Putting
pub mod Looking
pub mod Plain
pub mod Sided
pub mod Apart
pub mod Lent
