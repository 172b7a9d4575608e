pub mod Parts
pub mod Orders
pub mod Blocks
pub mod Stable
pub mod Ordered
pub mod Once
pub mod Grouped
pub mod Fronts
pub mod Alone
pub mod AloneValues
pub mod AloneBlocks
mod Examples
