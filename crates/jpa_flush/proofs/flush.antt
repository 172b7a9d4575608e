pub mod Actions
pub mod Alike
pub mod Below
pub mod Changed
pub mod Choosing
pub mod Converts
pub mod Entered
mod Examples
pub mod Flushed
pub mod Gaps
pub mod Joined
pub mod Learned
mod Linked
mod Locked
pub mod Names
pub mod Noted
pub mod OneEntry
pub mod Orphaned
pub mod Places
pub mod Prefix
pub mod Reached
pub mod Remembered
pub mod Rising
pub mod Rounds
pub mod Same
pub mod Settled
pub mod Silent
pub mod Turns
pub mod TurnsOfMemory
pub mod TurnsOfUpdates
pub mod Unplanned
pub mod Unreached
pub mod Untouched
pub mod Updated
pub mod Values
pub mod Written
