pub mod RequirementPrint
pub mod Views
pub mod RequirementOrder
