pub mod Facts
pub mod Counted
pub mod Names
pub mod Regular
pub mod Samples
