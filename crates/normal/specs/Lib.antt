pub mod Normalizing
pub mod Law
