pub mod Migration
pub mod Places
pub mod Changed
pub mod Plans
pub mod Orderly
