pub mod Told
pub mod Walk
pub mod Key
pub mod Numbering
pub mod Left
