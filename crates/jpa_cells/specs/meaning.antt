pub mod Tables
pub mod Schema
pub mod Content
pub mod Store
pub mod Reads
