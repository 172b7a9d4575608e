pub mod Typed
pub mod Told
