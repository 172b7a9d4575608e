pub mod Outcome
pub mod Members
pub mod JsonOf
pub mod Values
