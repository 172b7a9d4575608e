pub mod Revisions
pub mod Asking
pub mod Plans
pub mod ManagedPlans
pub mod Parameters
pub mod Questions
pub mod Lines
pub mod Telling
