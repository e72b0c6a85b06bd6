pub mod Blocks
pub mod Numbered
pub mod Sums
pub mod Shifted
pub mod Prelude
