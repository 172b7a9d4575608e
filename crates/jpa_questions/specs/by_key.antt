pub mod Own
pub mod ByKey
pub mod Laws
