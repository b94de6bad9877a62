pub mod Handing
pub mod Emitting
pub mod Preprocessing
