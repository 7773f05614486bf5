pub mod Underline
