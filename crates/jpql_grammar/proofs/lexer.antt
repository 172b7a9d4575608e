pub mod Runs
pub mod Whole
