pub mod Orders
pub mod Entries
pub mod Changes
pub mod Slots
pub mod Handing
