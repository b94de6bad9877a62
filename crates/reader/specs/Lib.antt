pub mod Reads
pub mod Holding
pub mod NextToken
pub mod Readings
