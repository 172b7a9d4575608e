pub mod Distinct
pub mod Pairs
pub mod Functions
pub mod Laws
pub mod Sorts
pub mod FunctionsOf
pub mod FunctionsIn
pub mod Known
