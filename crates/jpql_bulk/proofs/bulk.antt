pub mod Each
pub mod Found
pub mod Made
pub mod Named
