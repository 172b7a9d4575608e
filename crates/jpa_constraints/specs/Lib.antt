pub mod Changed
pub mod Judged
