pub mod SymbolAfters
pub mod Inserts
pub mod Layouts
pub mod WrapsOnce
pub mod AtOnce
pub mod UndoGroups
pub mod UndoLaw
pub mod Orders
pub mod Replacing
pub mod Indenting
pub mod ReplacedTexts
pub mod IndentedTexts
pub mod MovedLines
pub mod Betweens
pub mod Ranges
pub mod PastRanges
pub mod Sounds
pub mod Changing
mod ChangeLogs
mod UnitCounts
pub mod StepLaw
pub mod DocumentWraps
pub mod RangesOverSplices
pub mod Covering
mod GivenBack
pub mod Steps
pub mod RowLemmas
