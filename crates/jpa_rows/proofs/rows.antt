pub mod Classes
pub mod Commits
pub mod Looks
pub mod Contents
pub mod Fields
pub mod Found
pub mod Judged
pub mod Narrow
pub mod SameRows
mod Samples
pub mod Splits
