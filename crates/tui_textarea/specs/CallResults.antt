-- The results of calls, without what a caller doesn't use: a text by its characters, without the
-- capacity and address of its `String`; the cell of the caret by column and row.
use Rattle.std.specs.Prelude.{ℕ, Bool, List, map, Option, string_bytes}
use Rattle.std.specs.Option.{option_map}
use Rattle.std.specs.Str.{chars}
use Rattle.textarea_document.specs.Changes.{ChangeView, change_view}
use Rattle.textarea_view.specs.Placements.{cell_of_position}
use Rattle.textarea_data.specs.declared.cursor.CursorRenderMode as modes
use Rattle.textarea_data.specs.declared.cursor.CursorUnit as units
use Rattle.textarea_data.specs.declared.range.AtomicRange.{AtomicRange}
use Rattle.textarea_data.specs.declared.range.RejectedAtomicRange.{RejectedAtomicRange}
use Rattle.textarea_screen.specs.declared.screen.alignment.Alignment as alignments
use Rattle.textarea_screen.specs.declared.screen.style.Style as styles
use Rattle.textarea_data.specs.declared.measure.TextAreaMeasure.{TextAreaMeasure}
use Rattle.textarea_text.specs.Place as places
use Rattle.textarea_wrap.specs.declared.wrap.WrapMode as modes_of_wrapping
use Rattle.textarea_calls.specs.declared.answer.Answer.{Answer}
use Rattle.textarea_calls.specs.declared.answer.Answer.TheVariants as returned

-- done and nothing else; whether there was something to do; a text; the range that was found, if
-- any; the rejected ranges; the measured heights; that the pattern is rejected; the position that a
-- cell shows, if any; the column and row of the caret, if it is shown; a style; the mask, if there
-- is one; how the cursor is drawn; the alignment of rows; a number that is set; the cursor; the two
-- ends of the selection, if one is open; a style, if its part is shown; how lines are wrapped; a
-- number, if there is one; or the changes since they were last taken
pub data CallResult : Type 0 where
  Done : CallResult
  Flag : Bool → CallResult
  Text : List ℕ → CallResult
  Range : Option AtomicRange → CallResult
  Rejected : List RejectedAtomicRange → CallResult
  Measured : TextAreaMeasure → CallResult
  PatternRejected : CallResult
  Place : Option (ℕ × ℕ) → CallResult
  Position : Option (ℕ × ℕ) → CallResult
  Style : styles.Style → CallResult
  Character : Option ℕ → CallResult
  CursorRenderMode : modes.CursorRenderMode → CallResult
  CursorUnit : units.CursorUnit → CallResult
  Alignment : alignments.Alignment → CallResult
  Number : ℕ → CallResult
  Cursor : places.Place → CallResult
  Selection : Option (places.Place × places.Place) → CallResult
  StyleIfVisible : Option styles.Style → CallResult
  WrapMode : modes_of_wrapping.WrapMode → CallResult
  NumberIfAny : Option ℕ → CallResult
  Changes : List ChangeView → CallResult

abbrev pub call_result : Answer → CallResult
call_result returned.Done = Done
call_result (returned.Flag flag) = Flag flag
call_result (returned.Text text) = Text (chars (string_bytes text))
call_result (returned.Range range) = Range range
call_result (returned.Rejected rejected) = Rejected rejected.items
call_result (returned.Measured measure) = Measured measure
call_result returned.PatternRejected = PatternRejected
call_result (returned.Place place) = Place place
call_result (returned.Position position) = Position (option_map cell_of_position position)
call_result (returned.Style style) = Style style
call_result (returned.Character character) = Character character
call_result (returned.CursorRenderMode mode) = CursorRenderMode mode
call_result (returned.CursorUnit unit) = CursorUnit unit
call_result (returned.Alignment alignment) = Alignment alignment
call_result (returned.Number number) = Number number
call_result (returned.Cursor cursor) = Cursor cursor
call_result (returned.Selection selection) = Selection selection
call_result (returned.StyleIfVisible style) = StyleIfVisible style
call_result (returned.WrapMode mode) = WrapMode mode
call_result (returned.NumberIfAny number) = NumberIfAny number
call_result (returned.Changes changes) = Changes (map change_view changes.items)
