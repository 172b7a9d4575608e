pub mod Calls
pub mod Kept
pub mod Placed
pub mod Counted
pub mod Rising
pub mod Given
mod Shortness
pub mod Keys
pub mod Once
pub mod Sorted
pub mod Behind
pub mod InParts
pub mod Best
pub mod Aggregated
pub mod Tallied
