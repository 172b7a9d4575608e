pub mod bulk
pub mod kept
