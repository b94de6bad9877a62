pub mod Textual
pub mod Identifying
pub mod Deciding
pub mod Answered
pub mod Cutting
pub mod Giving
