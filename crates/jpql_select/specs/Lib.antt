pub mod select
pub mod first
