mod Exchanging
pub mod InBlocks
pub mod LineSums
pub mod Numbers
mod Totals
mod Shifting
mod Splits
