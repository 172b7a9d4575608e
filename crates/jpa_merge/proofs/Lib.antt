mod Found
mod Fresh
mod Kept
mod Passes
mod Sought
mod Examples
