pub mod InputPrefixes
pub mod InputMarks
pub mod InputKeeps
pub mod InputUnits
pub mod InputStreams
pub mod InputReplies
pub mod InputStates
pub mod InputSequences
pub mod InputReports
pub mod InputRows
mod InputShort
mod ColorLemmas
mod ControlLemmas
mod DisputedBlank
mod FrameLists
mod PaintFill
mod PaintFrames
mod PaintLeft
mod PaintSpots
mod PaintSteps
mod PaintWhole
mod PartedBytes
mod PenLemmas
mod PenRuns
mod ScreenMoves
mod ScreenParted
mod ScreenPlain
mod SettledLemmas
