pub mod Record
pub mod Print
pub mod Text
pub mod Reading
pub mod Faults
pub mod Printable
pub mod Releases
pub mod Kept
