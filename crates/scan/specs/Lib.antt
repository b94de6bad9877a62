pub mod Fills
pub mod Turns
