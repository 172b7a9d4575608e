pub mod Entries
pub mod Found
pub mod Changes
pub mod Puts
pub mod Distinct
pub mod Zips
pub mod Bridge
pub mod Examples
