pub mod Over
pub mod Replaced
pub mod Written
pub mod Seen
pub mod Stepped
pub mod Stood
pub mod StoodObjects
pub mod StoodNumbers
pub mod Commits
mod Examples
