pub mod Marks
pub mod Work
pub mod Steps
pub mod Near
pub mod Places
pub mod Indexed
pub mod Undo
pub mod Carries
