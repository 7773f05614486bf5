pub mod Tests
pub mod Quotes
pub mod Asking
pub mod Putting
pub mod Walking
pub mod Boundaries
pub mod Unasked
