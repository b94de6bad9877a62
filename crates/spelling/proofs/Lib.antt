pub mod Bytes
pub mod Emissions
pub mod Texts
pub mod Units
pub mod Points
