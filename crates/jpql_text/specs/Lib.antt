pub mod text
pub mod shapes
