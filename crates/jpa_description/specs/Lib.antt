pub mod history
