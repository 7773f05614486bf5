pub mod Refusing
pub mod RefusedExtras
pub mod RefusingUnnamed
pub mod Behind
pub mod Requirements
pub mod UnnamedRequirements
pub mod Markers
pub mod WithTree
