pub mod Said
pub mod Trees
pub mod Spans
pub mod Steps
pub mod Pending
pub mod TopExtra
pub mod Counted
pub mod Ends
