pub mod Zeros
pub mod Unions
pub mod Rests
pub mod SameKeys
