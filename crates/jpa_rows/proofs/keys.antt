pub mod Examples
pub mod Joins
pub mod Escapes
pub mod Integers
pub mod Parts
pub mod Spelling
pub mod Orders
pub mod Texts
