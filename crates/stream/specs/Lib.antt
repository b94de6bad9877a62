pub mod Preprocess
pub mod Sources
pub mod Within
pub mod Sinks
