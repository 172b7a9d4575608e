pub mod Keeps
pub mod Names
pub mod Seen
pub mod Turns
