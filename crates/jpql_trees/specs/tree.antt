pub mod Names
pub mod Steps
pub mod Calls
pub mod Variables
