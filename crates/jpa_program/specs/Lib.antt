pub mod Opening
pub mod Persons
pub mod Run
pub mod Isolation
