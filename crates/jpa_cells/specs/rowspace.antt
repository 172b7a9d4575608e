pub mod Stored
pub mod Reading
pub mod Space
pub mod Enduring
pub mod Samples
