-- The changes that are taken out of a text area's log, and returned one by one.
use Rattle.std.specs.Prelude.{ℕ, ◌≡◌, List, length, map, Option, None, Some, slice_get}
use Rattle.textarea_document.specs.Changes.{ChangeView, change_view}
use Rattle.textarea_text.specs.Place.{Place}
use Rattle.tui_textarea.specs.State.{with_changes_taken}
use Rattle.textarea_c.specs.Calls.{with_area}
use Rattle.textarea_c.specs.declared.editor.Editor.{Editor}

-- the log is emptied, and its changes are stored
pub record TakesChanges (status : ℕ) (a b : Editor) : Type 0 where
  pub status_is : status ≡ 0
  pub taken : map change_view b.changes.items ≡ a.area.document.changes.made
  pub rest : b ≡ record (with_area a (with_changes_taken a.area)) { changes = b.changes }

-- these are the ends of the change, and the number of its lines
pub record IsChangeOut (change : ChangeView) (start to : Place) (count : ℕ) : Type 0 where
  pub start_is : start ≡ change.start
  pub end_is : to ≡ change.end
  pub count_is : count ≡ length change.lines

-- the line of the row of a change, if there is one
abbrev pub line_of_change : Option ChangeView → ℕ → Option (List ℕ)
line_of_change None row = None
line_of_change (Some change) row = slice_get change.lines row

-- the line of the row of the change of the index, if there is one
abbrev pub changed_line : List ChangeView → ℕ → ℕ → Option (List ℕ)
changed_line changes index row = line_of_change (slice_get changes index) row
