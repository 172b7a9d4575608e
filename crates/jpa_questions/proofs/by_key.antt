pub mod Below
pub mod Pairless
pub mod Members
pub mod Same
pub mod Conditions
pub mod Selected
pub mod Asked
pub mod Alone
