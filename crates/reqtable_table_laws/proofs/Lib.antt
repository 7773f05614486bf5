pub mod CasesOfLines
pub mod OneCase
pub mod Telling
