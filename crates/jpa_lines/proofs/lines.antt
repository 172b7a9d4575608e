mod Examples
pub mod Feeds
pub mod Held
pub mod InOrder
pub mod Kept
pub mod Lines
pub mod OneLine
pub mod Parameters
pub mod SoFar
pub mod Taken
pub mod Told
pub mod Written
