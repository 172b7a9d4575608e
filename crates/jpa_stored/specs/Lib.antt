pub mod objects
pub mod ordered
