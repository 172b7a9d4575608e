pub mod Gathered
pub mod Handed
pub mod Looks
pub mod OneRow
pub mod Whole
pub mod Asked
