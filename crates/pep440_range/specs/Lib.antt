pub mod Numbers
pub mod Ranges
pub mod ErrorPrint
pub mod Agreement
pub mod Shared
pub mod Complements
pub mod Intervals
