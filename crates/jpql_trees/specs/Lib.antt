pub mod tree
