pub mod Places
pub mod Spreading
pub mod Whole
