pub mod Environment
pub mod EnvironmentValues
pub mod EnvironmentLaws
pub mod Building
