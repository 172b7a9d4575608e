pub mod Unread
pub mod Seen
pub mod Gathering
pub mod Answered
pub mod Changing
