pub mod Distinct
mod Examples
pub mod Paired
