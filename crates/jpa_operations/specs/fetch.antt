pub mod Grown
pub mod Load
pub mod Members
pub mod Orderly
pub mod Finds
