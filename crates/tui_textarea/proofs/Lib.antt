mod CaretHit
mod CaretVisible
mod DrawnRows
mod OneDrawing
mod OneHit
mod OneInside
mod OneRendering
mod Rects
mod Rendering
mod Widths
mod Acting
mod Admitted
pub mod Ahead
pub mod Copying
mod Filled
pub mod Grouping
mod SettledUndos
mod UndoneAtOnce
mod GroupsOfCalls
mod ReplacedAtOnce
mod UndoneTexts
pub mod FragmentTexts
pub mod Spaced
pub mod Searches
mod EachSymbol
mod ActionTexts
pub mod Ends
mod TypedLines
mod MatchOrder
mod MatchSteps
pub mod MatchWalk
mod MatchesOfLines
mod MatchSpans
mod MatchStops
mod OneTarget
pub mod Frames
mod OneAct
mod Removing
mod Targets
mod FoundPlaces
mod WholeStarts
mod StaysSound
mod SettledCalls
mod SettledRuns
mod SoundStates
mod TextFailures
mod Cases
pub mod Settling
pub mod WholeRemovals
mod RowPlaces
mod WholeEnds
mod WrappedLines
mod Stepping
mod Replacing
mod WholeStretches
mod WholeLines
mod FirstRemovals
mod RangesOverActions
mod Lifted
mod Unedited
mod ReadOnly
mod Guarded
pub mod Fitting
mod Unselected
mod CursorLine
pub mod CallWraps
mod RangesOverCalls
mod RangesOverRuns
mod Covering
mod ChangesOverCalls
mod ChangesOverRuns
pub mod Runs
