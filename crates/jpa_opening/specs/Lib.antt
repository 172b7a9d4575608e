pub mod migration
pub mod reader
