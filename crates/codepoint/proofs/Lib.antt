pub mod ClassTable
pub mod Encoding
pub mod Decoding
pub mod Sequences
pub mod Utf8Laws
