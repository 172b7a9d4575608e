pub mod Apart
mod Examples
pub mod Names
pub mod Proven
pub mod Sorted
pub mod Texts
pub mod Twos
