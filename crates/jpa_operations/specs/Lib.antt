pub mod fetch
pub mod ops
