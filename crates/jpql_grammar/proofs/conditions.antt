pub mod Turns
pub mod PastClose
