-- The log of changes as its struct stores it.
use Rattle.std.specs.Prelude.{◌<◌, List, [], ◌∷◌, map, Option, None, Some, vec_capacity, vec_len}
use Rattle.textarea_change.specs.declared.change.TextChange.{TextChange}
use Rattle.textarea_document.specs.Changes.{LoggedChanges, ChangeView, change_view}
use Rattle.textarea_document.specs.declared.document.changes.ChangeLog.{ChangeLog}

abbrev pub changes_of : ChangeLog → LoggedChanges
changes_of log = record { unit = log.unit; made = map change_view log.changes.items }

-- what was prepared for it
abbrev pub kept_view : Option TextChange → List ChangeView
kept_view None = []
kept_view (Some change) = change_view change ∷ []

-- there is room for one more change
abbrev pub HasRoomForChange : ChangeLog → Type 0
HasRoomForChange log = vec_len log.changes < vec_capacity log.changes
