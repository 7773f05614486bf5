pub mod VersionTexts
pub mod ListTexts
pub mod RangeAnswers
pub mod OneEnding
pub mod Messages
pub mod OneVersion
pub mod OneRange
