-- The states after the calls for atomic ranges.
use Rattle.std.specs.Prelude.{List, Option, None, Some}
use Rattle.textarea_data.specs.declared.range.AtomicRange.{AtomicRange}
use Rattle.textarea_data.specs.declared.range.AtomicCursorBias.{AtomicCursorBias}
use Rattle.textarea_data.specs.declared.range.AtomicDeleteDirection.{AtomicDeleteDirection}
use Rattle.textarea_ranges.specs.Lookup.{range_end, range_start}
use Rattle.textarea_document.specs.DocumentState.{DocumentState}
use Rattle.textarea_document.specs.Edits.{between_removed, range_at_cursor}
use Rattle.textarea_document.specs.Ranges.{accepted, anchored, normalized, ranges_forgotten}
use Rattle.tui_textarea.specs.State.{State, with_document}
use Rattle.tui_textarea.specs.Units.{whole_end, whole_start}

abbrev pub ranges_accepted : State → List AtomicRange → State
ranges_accepted state ranges = with_document state (accepted state.document ranges)

abbrev pub ranges_cleared : State → State
ranges_cleared state = with_document state (ranges_forgotten state.document)

-- the cursor moves out of the range that strictly contains it
abbrev pub cursor_normalized : State → AtomicCursorBias → State
cursor_normalized state bias = with_document state (normalized state.document bias)

-- the range is removed, if there is one, with the clusters that it shares, and the selection stays
abbrev pub whole_range_removed : Option AtomicRange → State → DocumentState
whole_range_removed None state = state.document
whole_range_removed (Some range) state =
    anchored (between_removed state.document (whole_start state (range_start range)) (whole_end state (range_end range)) state.time) state.document.anchor

-- so is that at the cursor
abbrev pub atomic_range_removed : State → AtomicDeleteDirection → State
atomic_range_removed state direction = with_document state (whole_range_removed (range_at_cursor state.document direction) state)
