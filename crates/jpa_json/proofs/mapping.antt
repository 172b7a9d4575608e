pub mod Examples
pub mod Listed
pub mod Texts
