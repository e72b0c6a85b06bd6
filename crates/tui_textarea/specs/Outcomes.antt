-- The possible results of a call, and the state and buffer after it. Most calls have one result and
-- one state. A pattern may be rejected: that is a result too, and the state stays. The definitions
-- of moves, scrolls, inputs, measures, hit tests and drawings are those of the text area.
use Rattle.std.specs.Prelude.{◌≡◌, ℕ, List}
use Rattle.textarea_search.specs.PlainTexts.{text_pattern}
use Rattle.tui_textarea.specs.Hit.{IsHitTest}
use Rattle.tui_textarea.specs.Rendered.{IsDrawn}
use Rattle.textarea_screen.specs.Buffer.{KeepsOutside}
use Rattle.textarea_screen.specs.Rect.{contains}
use Rattle.textarea_screen.specs.declared.screen.buffer.Buffer.{Buffer}
use Rattle.textarea_screen.specs.declared.screen.rect.Position.{Position}
use Rattle.tui_textarea.specs.Drawing.{IsRendered, widget_of}
use Rattle.tui_textarea.specs.Input.{IsAfterAction, IsInputOutOfMemory, ActMayRunOutOfMemory, action_flag, asked_by, asked_without_shortcuts}
use Rattle.tui_textarea.specs.Measure.{IsMeasured}
use Rattle.tui_textarea.specs.Moves.{IsMoved, IsScrolled}
use Rattle.tui_textarea.specs.State.{State}
use Rattle.tui_textarea.specs.Search.{with_pattern}
use Rattle.tui_textarea.specs.Calls.{StateOutOfMemory, NeedsMemory, result_of_call, state_after}
use Rattle.tui_textarea.specs.Patterns.{MayRejectPattern}
use Rattle.tui_textarea.specs.CallResults.{CallResult, Done, Flag, Measured, PatternRejected, Place}
use Rattle.textarea_calls.specs.declared.call.Call.{Call}
use Rattle.textarea_calls.specs.declared.call.Call.TheVariants.{CursorAtPosition, Input, InputWithoutShortcuts, Measure, Move, Render, Scroll, SetSearchPattern, SetSearchText}

-- a possible result of setting this pattern
abbrev pub IsPatternCallResult : State → List ℕ → CallResult → Type 0
IsPatternCallResult state text PatternRejected = MayRejectPattern state text
IsPatternCallResult state text returned = returned ≡ Done

-- the state after setting this pattern with this result
abbrev pub after_pattern : State → List ℕ → CallResult → State
after_pattern state text PatternRejected = state
after_pattern state text returned = with_pattern state text

-- a possible result of measuring at this width
abbrev pub IsMeasureResult : State → ℕ → CallResult → Type 0
IsMeasureResult state width (Measured measure) = IsMeasured state width measure
IsMeasureResult state width returned = ⊥

-- a possible result of the hit test for this cell
abbrev pub IsHitTestResult : State → Position → CallResult → Type 0
IsHitTestResult state cell (Place place) = IsHitTest (widget_of state) cell.x cell.y place
IsHitTestResult state cell returned = ⊥

-- a possible result of the call
abbrev pub IsResultOf : State → Call → CallResult → Type 0
IsResultOf state (SetSearchPattern text) returned = IsPatternCallResult state text.now returned
IsResultOf state (SetSearchText text ignore_case whole_word) returned = IsPatternCallResult state (text_pattern text.now ignore_case whole_word) returned
IsResultOf state (Measure width) returned = IsMeasureResult state width returned
IsResultOf state (CursorAtPosition cell) returned = IsHitTestResult state cell returned
IsResultOf state (Input input) returned = returned ≡ Flag (action_flag state (asked_by input.now))
IsResultOf state (InputWithoutShortcuts input) returned = returned ≡ Flag (action_flag state (asked_without_shortcuts input.now))
IsResultOf state call returned = returned ≡ result_of_call state call

-- the state after the call, with this result
abbrev pub IsAfterCall : State → Call → CallResult → State → Type 0
IsAfterCall old (SetSearchPattern text) returned new = new ≡ after_pattern old text.now returned
IsAfterCall old (SetSearchText text ignore_case whole_word) returned new = new ≡ after_pattern old (text_pattern text.now ignore_case whole_word) returned
IsAfterCall old (Move cursor_move) returned new = IsMoved old cursor_move new
IsAfterCall old (Scroll scrolling) returned new = IsScrolled old scrolling new
IsAfterCall old (Render area) returned new = IsRendered old area new
IsAfterCall old (Input input) returned new = IsAfterAction old (asked_by input.now) new
IsAfterCall old (InputWithoutShortcuts input) returned new = IsAfterAction old (asked_without_shortcuts input.now) new
IsAfterCall old call returned new = new ≡ state_after old call

-- the call may run out of memory, because it, or the call of its input, may need memory
abbrev pub MayRunOutOfMemory : State → Call → Type 0
MayRunOutOfMemory state (Input input) = ActMayRunOutOfMemory state (asked_by input.now)
MayRunOutOfMemory state (InputWithoutShortcuts input) = ActMayRunOutOfMemory state (asked_without_shortcuts input.now)
MayRunOutOfMemory state call = NeedsMemory state call

-- the state after a call that ran out of memory
abbrev pub IsAfterOutOfMemory : State → Call → State → Type 0
IsAfterOutOfMemory old (Input input) new = IsInputOutOfMemory old (asked_by input.now) new
IsAfterOutOfMemory old (InputWithoutShortcuts input) new = IsInputOutOfMemory old (asked_without_shortcuts input.now) new
IsAfterOutOfMemory old call new = StateOutOfMemory old call new

-- the call may run out of memory, and this is the state after it did
pub record RanOutOfMemory (old : State) (call : Call) (new : State) : Type 0 where
  pub may : MayRunOutOfMemory old call
  pub left : IsAfterOutOfMemory old call new

-- the buffer after the call, if it leaves this state: after a drawing that state drawn into the
-- area, after any other call the old buffer
abbrev pub IsBufferAfter : Call → State → Buffer → Buffer → Type 0
IsBufferAfter (Render area) state old new = IsDrawn (widget_of state) area old new
IsBufferAfter call state old new = new ≡ old

-- the buffer after a call that ran out of memory: after a drawing the old one outside the area
abbrev pub IsBufferOutOfMemory : Call → Buffer → Buffer → Type 0
IsBufferOutOfMemory (Render area) old new = KeepsOutside (contains area) old new
IsBufferOutOfMemory call old new = new ≡ old
