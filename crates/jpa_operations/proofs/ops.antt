mod Based
mod Entered
mod Examples
mod Fitting
pub mod Front
pub mod Going
mod LetGo
mod Locked
mod Persisted
pub mod Ready
mod Refreshed
pub mod Refused
mod Rounds
pub mod Names
