pub mod Faults
pub mod Inputs
pub mod Ends
pub mod FaultText
pub mod Within
