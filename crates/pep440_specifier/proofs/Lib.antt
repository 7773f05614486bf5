pub mod Fronts
pub mod Grammar
pub mod PatternTexts
pub mod NextMinor
pub mod Said
pub mod Told
