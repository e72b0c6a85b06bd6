mod Layouts
mod ChangedLine
pub mod Stores
mod SameWraps
mod Preparing
mod Changes
mod Measuring
mod WholeLines
mod Fronts
mod OneList
mod Steps
mod Widths
pub mod PutSettings
mod MapWidths
mod Splicing
mod SplicedRows
mod Wrapping
pub mod Positions
mod ComingLines
mod RowsOnce
mod WrappingOnce
mod TouchedRows
mod HeldOnce
