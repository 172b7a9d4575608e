pub mod Found
mod Placed
mod First
mod Staying
mod Unlocked
mod Listed
mod Examples
