pub mod Objects
pub mod Assign
pub mod Shape
