pub mod Mapped
pub mod Narrow
pub mod Guess
pub mod Pairs
pub mod Own
pub mod Laws
