pub mod Opened
pub mod Mapped
pub mod Machines
pub mod Standing
pub mod Isolated
