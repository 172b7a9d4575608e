-- A change that tests make.
pub mod Samples
