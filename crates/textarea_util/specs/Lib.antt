pub mod Limit
pub mod Replaced
