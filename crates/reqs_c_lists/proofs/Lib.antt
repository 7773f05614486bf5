pub mod Told
pub mod AtHand
