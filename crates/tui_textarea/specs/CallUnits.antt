-- Which calls leave the cursor and the anchor outside of clusters and ranges, and in which direction the
-- cursor is moved.
use Rattle.std.specs.Prelude.{◌||◌, Bool, true, false, if◌then◌else◌}
use Rattle.textarea_calls.specs.Edits.{edits}
use Rattle.textarea_calls.specs.Keys.{keys_with_shortcuts, keys_without_shortcuts}
use Rattle.textarea_calls.specs.Table.{action_by}
use Rattle.textarea_calls.specs.declared.action.Action.{Action}
use Rattle.textarea_calls.specs.declared.action.Action.TheVariants as action
use Rattle.textarea_calls.specs.declared.call.Call.{Call}
use Rattle.textarea_calls.specs.declared.call.Call.TheVariants as call
use Rattle.textarea_data.specs.declared.range.AtomicCursorBias.{AtomicCursorBias}
use Rattle.textarea_data.specs.declared.range.AtomicCursorBias.TheVariants.{Backward, Forward}
use Rattle.tui_textarea.specs.State.{State}
use Rattle.tui_textarea.specs.Units.{settled}

-- the call moves the cursor, or sets its unit; moves, scrolls, inputs and the setting of ranges, which
-- may be rejected, are defined elsewhere
abbrev pub places_cursor : Call → Bool
places_cursor (call.GoTo place) = true
places_cursor call.SelectAll = true
places_cursor (call.SearchForward at_cursor) = true
places_cursor (call.SearchBack at_cursor) = true
places_cursor (call.NormalizeCursorAroundAtomicRanges bias) = true
places_cursor (call.SetCursorUnit unit) = true
places_cursor made = false

-- so cursor and anchor may be inside a cluster after it; any other call changes none of these
abbrev pub settles : Call → Bool
settles made = edits made || places_cursor made

-- where the call moves a cursor that is inside a cluster or a range: back after a search back, which
-- else would find the same match again and again, and the way that it is told to
abbrev pub bias_of_call : Call → AtomicCursorBias
bias_of_call (call.SearchBack at_cursor) = Backward
bias_of_call (call.NormalizeCursorAroundAtomicRanges bias) = bias
bias_of_call made = Forward

-- the state after the call, if it led to this one
abbrev pub settled_after : Call → State → State
settled_after made state = if settles made then settled (bias_of_call made) state else state

-- the call may remove a part of a cluster: it removes a number of characters, or makes or unmakes edits
-- from before
abbrev pub TakesPartsBy : Action → Type 0
TakesPartsBy action.Undo = Unit {0}
TakesPartsBy action.Redo = Unit {0}
TakesPartsBy asked = ⊥

abbrev pub TakesParts : Call → Type 0
TakesParts (call.DeleteStr count) = Unit {0}
TakesParts call.Undo = Unit {0}
TakesParts call.Redo = Unit {0}
TakesParts (call.Input input) = TakesPartsBy (action_by keys_with_shortcuts input.now)
TakesParts (call.InputWithoutShortcuts input) = TakesPartsBy (action_by keys_without_shortcuts input.now)
TakesParts made = ⊥
