-- The documents after an edit, an undo, a redo and a move.
use Rattle.std.specs.Prelude.{Bool, false, ℕ, length, nat_lt, Option, Some, None, if◌then◌else◌}
use Rattle.textarea_text.specs.Text.{lines}
use Rattle.textarea_lines.specs.AtOnce.{numbered, wrapped_once}
use Rattle.textarea_lines.specs.TextLayout.{Layout, after_splice}
use Rattle.textarea_text.specs.Place.{Place}
use Rattle.textarea_text.specs.Splice.{Splice, applied, inverse, place_after}
use Rattle.textarea_history.specs.HistoryLaw.{times}
use Rattle.textarea_history.specs.Log.{Log, recorded, newest, newest_group, next, next_group, undone_log, redone_log}
use Rattle.textarea_ranges.specs.Moved.{moved_ranges}
use Rattle.textarea_document.specs.Changes.{with_splice}
use Rattle.textarea_document.specs.DocumentRows.{text_and_layout}
use Rattle.textarea_document.specs.DocumentState.{DocumentState}
use Rattle.textarea_document.specs.PastRanges.{PastRanges, ranges_before_newest, ranges_before_next, ranges_or, ranges_to_remember, with_newest}

-- the layout of the text after a splice: the lines that it touches are wrapped, each once, and all
-- others keep their rows; all lines are wrapped if their number changes how lines wrap
abbrev pub layout_after : DocumentState → Splice → Layout
layout_after document splice = after_splice document.layout (length (lines document.text)) splice

-- a splice is applied, and this is the log after it: the cursor is after the inserted text, or
-- where the removed text began, nothing is selected, and the remaining ranges move with the text.
-- If changes are kept, it is one more
abbrev pub after_change : DocumentState → Splice → Log → DocumentState
after_change document splice log = record {
  text = applied document.text splice;
  layout = layout_after document splice;
  cursor = place_after splice;
  anchor = None;
  ranges = moved_ranges document.ranges splice;
  log = log;
  changes = with_splice document.changes document.text splice;
  past_ranges = document.past_ranges;
}

-- the remembered ranges after this edit
abbrev pub past_ranges_after : DocumentState → Splice → Bool → ℕ → PastRanges
past_ranges_after document splice typed now =
    with_newest document.past_ranges
    (ranges_to_remember document.past_ranges document.ranges document.log splice typed now)
    (length document.log.undone) (length (recorded document.log splice typed now).done)

-- an edit is made and recorded, as typed or not, at this time; if ranges are remembered, those before
-- it are, unless it joins the newest edit
abbrev pub after_edit : DocumentState → Splice → Bool → ℕ → DocumentState
after_edit document splice typed now =
    record (after_change document splice (recorded document.log splice typed now)) {
      past_ranges = past_ranges_after document splice typed now;
    }

-- ---- several edits at once

-- the document with its lines numbered and not wrapped, in which edits are made that wrap at once
abbrev pub lines_numbered : DocumentState → DocumentState
lines_numbered document = record document { layout = (numbered (text_and_layout document)).layout }

-- the layout of a document to which edits of the numbered lines of another one led: each line that
-- one of them touched is wrapped, once, and all others keep their rows; all lines are wrapped if
-- their number changes how lines wrap
unfoldable pub layout_at_once : DocumentState → DocumentState → Layout
layout_at_once before document =
    (wrapped_once (text_and_layout before) (text_and_layout document)).layout

-- edits led to this document from the other one, with its lines numbered
abbrev pub wrapped_at_once : DocumentState → DocumentState → DocumentState
wrapped_at_once before document = record document { layout = layout_at_once before document }

-- the edits are made, and wrap at once
abbrev pub made_at_once : (DocumentState → DocumentState) → DocumentState → DocumentState
made_at_once edits document = wrapped_at_once document (edits (lines_numbered document))

-- this many steps, one after another; several wrap at once
abbrev pub times_at_once : ℕ → (DocumentState → DocumentState) → DocumentState → DocumentState
times_at_once count step document =
    if nat_lt 1 count then made_at_once (times count step) document else times count step document

-- ---- undo and redo

-- the newest edit is undone, if there is one: the cursor is after the restored text, or where it
-- removed text. The ranges are those before the edit, if they are remembered; else they move
abbrev pub after_undo_by : Option Splice → DocumentState → DocumentState
after_undo_by None document = document
after_undo_by (Some splice) document =
    record (after_change document (inverse splice) (undone_log document.log splice)) {
      ranges = ranges_or (ranges_before_newest document.past_ranges document.log)
          (moved_ranges document.ranges (inverse splice));
    }

abbrev pub edit_undone : DocumentState → DocumentState
edit_undone document = after_undo_by (newest document.log) document

-- the edits of the newest group are undone, the newest first
abbrev pub after_undo : DocumentState → DocumentState
after_undo document = times_at_once (newest_group document.log) edit_undone document

-- the edit that was undone last is redone, if there is one: the cursor is where it left it. The
-- ranges before the edit, if they are remembered, move with the text, or else those that are there
abbrev pub after_redo_by : Option Splice → DocumentState → DocumentState
after_redo_by None document = document
after_redo_by (Some splice) document =
    record (after_change document splice (redone_log document.log splice)) {
      ranges = moved_ranges
          (ranges_or (ranges_before_next document.past_ranges document.log) document.ranges) splice;
    }

abbrev pub edit_redone : DocumentState → DocumentState
edit_redone document = after_redo_by (next document.log) document

-- the edits of the group that was undone last are redone
abbrev pub after_redo : DocumentState → DocumentState
after_redo document = times_at_once (next_group document.log) edit_redone document

-- ---- moves

abbrev pub run_ended : Log → Log
run_ended log = record log { run_open = false }

-- the cursor moves to the position, and the selection begins at the anchor; a run of typing ends
abbrev pub after_move : DocumentState → Place → Option Place → DocumentState
after_move document cursor anchor =
    record document { cursor = cursor; anchor = anchor; log = run_ended document.log }

-- nothing is selected any more, not even an empty selection
abbrev pub unanchored : DocumentState → DocumentState
unanchored document = record document { anchor = None }
