pub mod NumberOrder
pub mod KeyOrder
pub mod Written
