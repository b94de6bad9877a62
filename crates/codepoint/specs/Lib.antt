pub mod Classes
pub mod Starts
pub mod Utf8
