mod TableKinds
mod Said
mod Built
mod Owned
mod Together
pub mod Parts
pub mod Reading
pub mod Lowest
pub mod Standing
pub mod Undamaged
pub mod Rising
pub mod Keeping
pub mod Migrated
pub mod OneTable
pub mod Steps
pub mod Writing
pub mod Final
pub mod OfSet
