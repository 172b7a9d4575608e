pub mod History
pub mod Condition
