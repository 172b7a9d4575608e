mod Revised
mod Looked
mod Kept
mod Selected
