pub mod Packages
pub mod PlainLines
pub mod LinesRead
pub mod Selection
