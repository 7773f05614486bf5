pub mod TreeOrder
pub mod TreeIn
pub mod TreeOrderLaws
pub mod TreeText
pub mod Lent
pub mod Sides
pub mod Ties
pub mod Besides
