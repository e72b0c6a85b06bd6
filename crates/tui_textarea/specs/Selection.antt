-- The states after the calls for the selection.
use Rattle.std.specs.Prelude.{◌≡◌, ◌⊎◌, Some, length, if◌then◌else◌}
use Rattle.textarea_text.specs.Place.{place_of}
use Rattle.textarea_document.specs.Edits.{removed_symbols}
use Rattle.textarea_document.specs.Outcomes.{after_move, unanchored}
use Rattle.textarea_document.specs.Selection.{is_selected, selected, selection_end, selection_start, selected_removed}
use Rattle.textarea_data.specs.declared.range.AtomicCursorBias.TheVariants.{Forward}
use Rattle.tui_textarea.specs.State.{State, with_document}
use Rattle.tui_textarea.specs.Units.{settled}

-- the selected text is removed, if there is any: an edit of its own, which yanks nothing
abbrev pub unselected : State → State
unselected state = with_document state (selected_removed state.document state.time)

abbrev pub selection_cancelled : State → State
selection_cancelled state = with_document state (unanchored state.document)

abbrev pub selection_started : State → State
selection_started state = with_document state (record state.document { anchor = Some state.document.cursor })

-- the whole text is selected, from its start to the cursor, which moves to its end
abbrev pub all_selected : State → State
all_selected state = with_document state (after_move state.document (place_of state.document.text (length state.document.text)) (Some (0, 0)))

-- the selected text is yanked, if there is any; nothing is selected any more
abbrev pub selection_copied : State → State
selection_copied state = if is_selected state.document then record (selection_cancelled state) { yank = selected state.document } else selection_cancelled state

-- the selected text is removed and yanked, if there is any, with the atomic ranges that it
-- overlaps; nothing is selected any more
abbrev pub selection_cut : State → State
selection_cut state =
    if is_selected state.document then record (unselected state) { yank = removed_symbols state.document (selection_start state.document) (selection_end state.document) }
    else selection_cancelled state

-- the state after an insertion that ran out of memory: the old one, or it without the selected text,
-- and with whole characters
abbrev pub IsInsertOutOfMemory : State → State → Type 0
IsInsertOutOfMemory old new = (new ≡ old) ⊎ (new ≡ settled Forward (unselected old))
