pub mod Queries
pub mod Premises
