pub mod Bulks
pub mod Changes
pub mod Laws
pub mod Assigns
pub mod Causes
pub mod Throwing
