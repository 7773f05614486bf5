pub mod Operators
pub mod OperatorPrint
pub mod OperatorReading
pub mod OperatorErrors
