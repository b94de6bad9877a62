pub mod Steps
pub mod Replaying
pub mod Admitted
pub mod RunLaws
