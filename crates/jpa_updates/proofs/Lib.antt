pub mod Settled
pub mod Found
pub mod Updated
pub mod Arguments
pub mod Held
pub mod Executed
