mod Each
mod Apart
mod Claims
mod Leading
pub mod Sound
pub mod Steps
pub mod Examples
