pub mod Joined
pub mod OneMore
pub mod Straying
pub mod Beginning
pub mod Near
pub mod Sifting
pub mod Natural
pub mod Texts
