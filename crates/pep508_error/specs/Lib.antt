pub mod Spans
pub mod Cursors
pub mod Refusals
pub mod Cuts
pub mod Steps
pub mod Errors
