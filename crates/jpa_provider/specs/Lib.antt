pub mod Operations
pub mod Serving
pub mod Stages
pub mod Turns
pub mod Beside
pub mod Provided
