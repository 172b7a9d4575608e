pub mod undo
pub mod heap
pub mod context
