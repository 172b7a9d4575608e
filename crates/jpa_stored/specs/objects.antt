pub mod ClaimOrder
pub mod Places
pub mod Sets
