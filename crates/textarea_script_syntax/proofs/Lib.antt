pub mod Escapes
pub mod Fronts
pub mod Lines
pub mod Numbers
pub mod Ranges
pub mod Scripts
pub mod Tables
pub mod Tokens
