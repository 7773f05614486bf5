pub mod Reached
mod Reading
