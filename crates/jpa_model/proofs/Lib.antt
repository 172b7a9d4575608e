pub mod Chained
pub mod Climbed
pub mod Distinct
pub mod Found
pub mod Pushed
pub mod Within
