-- The splices by which the edits of a document change its text, as a list: one, or none if nothing
-- changes. Each is the splice of one of the five steps.
use Rattle.std.specs.Prelude.{◌==◌, List, [], ◌∷◌, map, reverse, take, Option, None, Some, if◌then◌else◌}
use Rattle.textarea_text.specs.Place.{Place}
use Rattle.textarea_text.specs.Splice.{Splice, inverse}
use Rattle.textarea_text.specs.Text.{Symbol}
use Rattle.textarea_history.specs.Log.{newest_group, next_group}
use Rattle.textarea_data.specs.declared.range.AtomicRange.{AtomicRange}
use Rattle.textarea_data.specs.declared.range.AtomicDeleteDirection.{AtomicDeleteDirection}
use Rattle.textarea_ranges.specs.Lookup.{range_start, range_end}
use Rattle.textarea_document.specs.DocumentState.{DocumentState}
use Rattle.textarea_document.specs.Edits.{Insert, Remove, RemoveBefore, RemoveAfter, RemoveBreak, range_at_cursor, range_before, range_after, is_at_end, is_at_start, splice_of_step}
use Rattle.textarea_document.specs.Selection.{is_selected, selection_end, selection_start}

-- the insertion of the symbols, if there are any
abbrev pub insertion_splices : DocumentState → List Symbol → List Splice
insertion_splices document [] = []
insertion_splices document (symbol ∷ symbols) = splice_of_step document (Insert (symbol ∷ symbols)) ∷ []

-- the removal of the text between two positions, with the ranges that this overlaps
abbrev pub removal_splices : DocumentState → Place → Place → List Splice
removal_splices document from to = splice_of_step document (Remove from to) ∷ []

-- the removal of the range, if there is one; otherwise the other splices
abbrev pub range_splices_or : Option AtomicRange → DocumentState → List Splice → List Splice
range_splices_or None document other = other
range_splices_or (Some range) document other =
    removal_splices document (range_start range) (range_end range)

-- the removal of the range at the cursor in this direction, if there is one
abbrev pub cursor_range_splices : DocumentState → AtomicDeleteDirection → List Splice
cursor_range_splices document direction = range_splices_or (range_at_cursor document direction) document []

-- the removal of the range at the cursor, backward, or else of the symbol before it, if any
abbrev pub before_splices : DocumentState → List Splice
before_splices document =
    range_splices_or (range_before document) document
    (if is_at_start document then [] else splice_of_step document RemoveBefore ∷ [])

-- the same after the cursor
abbrev pub after_splices : DocumentState → List Splice
after_splices document =
    range_splices_or (range_after document) document
    (if is_at_end document then [] else splice_of_step document RemoveAfter ∷ [])

-- the removal of the break before the cursor's line, if there is one
abbrev pub break_splices : DocumentState → List Splice
break_splices document =
    if document.cursor.0 == 0 then [] else splice_of_step document RemoveBreak ∷ []

-- the removal of the selected symbols, if there are any
abbrev pub selected_splices : DocumentState → List Splice
selected_splices document =
    if is_selected document then removal_splices document (selection_start document) (selection_end document) else []

-- the inverses of the edits of the newest group, the newest first
abbrev pub undo_splices : DocumentState → List Splice
undo_splices document = map inverse (take (newest_group document.log) (reverse document.log.done))

-- the edits of the group that was undone last
abbrev pub redo_splices : DocumentState → List Splice
redo_splices document = take (next_group document.log) document.log.undone
