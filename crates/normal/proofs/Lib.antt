pub mod Stepping
pub mod Transferring
pub mod Refusing
pub mod Answering
pub mod Settling
