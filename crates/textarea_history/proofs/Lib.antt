mod Runs
mod Weights
mod Changes
mod Offsets
pub mod Joins
mod Stores
pub mod Groups
pub mod LogLaws
pub mod UndoLaws
mod Copies
