pub mod Counts
pub mod Items
pub mod Refusals
pub mod Texts
