pub mod Halves
pub mod ByKind
pub mod Local
pub mod Telling
pub mod Sieving
pub mod Implying
pub mod Fewer
