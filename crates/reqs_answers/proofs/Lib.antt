pub mod Selected
pub mod Whole
pub mod Numbered
pub mod Formats
pub mod Framed
pub mod Ready
pub mod Strict
pub mod AskedRows
