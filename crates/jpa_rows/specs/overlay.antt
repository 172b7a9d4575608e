pub mod Overlay
pub mod Same
pub mod Merging
