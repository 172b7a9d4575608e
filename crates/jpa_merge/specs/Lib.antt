pub mod Merge
pub mod Imaged
pub mod CarriesOn
