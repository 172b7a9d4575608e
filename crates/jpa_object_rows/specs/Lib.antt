pub mod meaning
pub mod mapper
pub mod store
