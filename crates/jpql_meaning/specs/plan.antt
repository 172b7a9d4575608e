pub mod Alone
pub mod Bulk
pub mod Laws
pub mod Meaning
pub mod Paths
pub mod Selection
