-- A change that tests make is one of the schema.
pub mod Samples
