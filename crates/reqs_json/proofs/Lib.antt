pub mod OneLine
pub mod OneObject
pub mod Plain
pub mod Said
pub mod Joined
