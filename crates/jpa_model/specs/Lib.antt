pub mod Chains
pub mod Described
pub mod Kept
pub mod Drafted
pub mod WellFormed
