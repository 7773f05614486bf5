pub mod Errors
pub mod NormalTexts
pub mod Markers
pub mod Parts
