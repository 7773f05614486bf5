pub mod Ordered
pub mod Edges
pub mod Walking
mod Printed
mod Ties
mod Sound
mod Descending
