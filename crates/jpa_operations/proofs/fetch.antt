pub mod Based
pub mod Collected
pub mod Dropped
pub mod Grown
pub mod Loaded
pub mod Named
pub mod Read
pub mod Unread
