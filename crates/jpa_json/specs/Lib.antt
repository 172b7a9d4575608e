pub mod readers
pub mod mapping
pub mod functions
