mod SameName
mod ByName
mod ByPath
mod Twice
mod Calls
mod Blocks
mod Joined
mod Items
mod Judged
mod RowSamples
mod ScopeSamples
-- ---- each name means something
pub mod Options
pub mod ResolvedValues
pub mod Turns
pub mod ResolvedConditions
pub mod ResolvedStatements
