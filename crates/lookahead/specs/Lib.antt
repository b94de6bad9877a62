pub mod Ahead
pub mod Windows
