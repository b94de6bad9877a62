pub mod Blocks
pub mod Counts
pub mod Refusals
pub mod Admissions
pub mod States
pub mod Writes
pub mod Runs
