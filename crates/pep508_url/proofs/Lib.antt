pub mod CutTexts
pub mod Expansion
pub mod ExtrasSplits
pub mod PathParts
pub mod UrlLaws
pub mod NormalPaths
pub mod Places
pub mod References
