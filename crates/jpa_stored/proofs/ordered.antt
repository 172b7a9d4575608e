pub mod Examples
pub mod Known
pub mod Listed
pub mod Ordered
