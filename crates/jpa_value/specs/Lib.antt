pub mod Event
pub mod Limits
pub mod Key
pub mod Value
pub mod Refusal
pub mod formers
