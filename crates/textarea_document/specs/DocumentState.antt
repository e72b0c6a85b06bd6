-- The state of a document: a text, two positions in it, its ranges, and its history.
use Rattle.std.specs.Prelude.{ℕ, Bool, false, List, [], length, Option, None}
use Rattle.textarea_text.specs.Text.{Symbol, joined, lines}
use Rattle.textarea_text.specs.Between.{clip}
use Rattle.textarea_text.specs.Place.{Place}
use Rattle.textarea_history.specs.Log.{Log, Logged, empty_log}
use Rattle.textarea_lines.specs.declared.settings.LayoutSettings.{LayoutSettings}
use Rattle.textarea_lines.specs.TextLayout.{TextAndLayout, Layout, all_wrapped}
use Rattle.textarea_document.specs.Changes.{LoggedChanges, no_changes, with_lines_replaced, with_more}
use Rattle.textarea_data.specs.declared.range.AtomicRange.{AtomicRange}
use Rattle.textarea_document.specs.PastRanges.{PastRanges, no_past_ranges, past_ranges_set}

-- the text as one flat list of symbols; its layout, with the ticks of its lines' rows; the cursor;
-- where the selection began, if there is one; the atomic ranges; the done and undone edits; what
-- changed since that was last asked; and the ranges that are remembered for undo and redo
pub record DocumentState : Type 0 where
  pub text : List Symbol
  pub layout : Layout
  pub cursor : Place
  pub anchor : Option Place
  pub ranges : List AtomicRange
  pub log : Log
  pub changes : LoggedChanges
  pub past_ranges : PastRanges

-- a document from a text with its layout, and the rest
abbrev pub document_of : TextAndLayout → Place → Option Place → List AtomicRange → Log → LoggedChanges → PastRanges → DocumentState
document_of text_layout cursor anchor ranges log changes past_ranges = record {
  text = text_layout.text;
  layout = text_layout.layout;
  cursor = cursor;
  anchor = anchor;
  ranges = ranges;
  log = log;
  changes = changes;
  past_ranges = past_ranges;
}

-- the text of a document with the log of its edits
abbrev pub logged : DocumentState → Logged
logged document = record { text = document.text; log = document.log }

-- a document without a history, ranges and changes, with this cursor; all lines are wrapped, from
-- this value of the wrap counter on
abbrev pub fresh_document : List Symbol → LayoutSettings → ℕ → Place → ℕ → DocumentState
fresh_document text settings count cursor maximum = record {
  text = text;
  layout = all_wrapped settings count (length (lines text));
  cursor = cursor;
  anchor = None;
  ranges = [];
  log = empty_log maximum;
  changes = no_changes None;
  past_ranges = no_past_ranges false;
}

-- a new document: the cursor at the start
abbrev pub new_document : List Symbol → LayoutSettings → ℕ → DocumentState
new_document text settings maximum = fresh_document text settings 0 (0, 0) maximum

-- lines replace those of the document: no history and no ranges stay, nothing is selected, the cursor
-- is at the nearest position in them, and whether ranges are remembered stays
abbrev pub lines_replaced : DocumentState → List (List ℕ) → Place → DocumentState
lines_replaced document rows cursor =
    record (fresh_document (joined rows) document.layout.settings document.layout.count (clip rows cursor) document.log.maximum) {
      changes = with_lines_replaced document.changes document.text rows;
      past_ranges = no_past_ranges document.past_ranges.on;
    }

-- the document forgets all edits and an open group, and remembers at most this number of them
abbrev pub history_forgotten : DocumentState → ℕ → DocumentState
history_forgotten document maximum =
    record document { log = empty_log maximum; past_ranges = no_past_ranges document.past_ranges.on }

-- from now on the document remembers ranges for undo and redo, or it forgets them
abbrev pub undo_ranges_set : DocumentState → Bool → DocumentState
undo_ranges_set document on =
    record document { past_ranges = past_ranges_set document.past_ranges on }

-- the document with no changes yet, if they are kept
abbrev pub changes_taken : DocumentState → DocumentState
changes_taken document = record document { changes = no_changes document.changes.unit }

-- the document with these changes before its own
abbrev pub with_changes_after : LoggedChanges → DocumentState → DocumentState
with_changes_after before document = record document { changes = with_more before document.changes.made }
