pub mod Edges
pub mod Stops
