-- Text that is replaced: a removal and then an insertion, in one group of edits.
use Rattle.std.specs.Prelude.{Bool, ℕ, ◌+◌, ◌-◌, ◌||◌, List, [], ◌∷◌, ◌++◌, length, min, None, if◌then◌else◌}
use Rattle.textarea_text.specs.Text.{Symbol, lines}
use Rattle.textarea_text.specs.Place.{Place, index_of, is_before, place_of}
use Rattle.textarea_text.specs.Between.{clip, symbols_between}
use Rattle.textarea_text.specs.Splice.{Splice}
use Rattle.textarea_history.specs.Groups.{is_open}
use Rattle.textarea_history.specs.Log.{group_begun, group_ended}
use Rattle.textarea_document.specs.DocumentState.{DocumentState}
use Rattle.textarea_document.specs.Edits.{between_removed, has_symbols, symbols_inserted}
use Rattle.textarea_document.specs.Outcomes.{after_move, made_at_once}
use Rattle.textarea_document.specs.Splices.{insertion_splices, removal_splices}

-- ---- the text between two positions, in either order

-- the one of two positions that comes first, and the other one
abbrev pub first_place : Place → Place → Place
first_place one other = if is_before other one then other else one

abbrev pub last_place : Place → Place → Place
last_place one other = if is_before other one then one else other

-- the positions of the text that are nearest to these two, the first one first
abbrev pub stretch_start : List Symbol → Place → Place → Place
stretch_start text from to = first_place (clip (lines text) from) (clip (lines text) to)

abbrev pub stretch_end : List Symbol → Place → Place → Place
stretch_end text from to = last_place (clip (lines text) from) (clip (lines text) to)

-- the symbols between them
abbrev pub stretch_symbols : List Symbol → Place → Place → List Symbol
stretch_symbols text from to =
    symbols_between text (stretch_start text from to) (stretch_end text from to)

-- ---- groups

-- a group begins, if none is open
abbrev pub begun : DocumentState → DocumentState
begun document = record document { log = group_begun document.log }

-- the document that steps led to from the other one on, once the group that began there ended: a
-- group that was open before stays open
abbrev pub ended_after : DocumentState → DocumentState → DocumentState
ended_after before document =
    if is_open before.log.group then document
    else record document { log = group_ended document.log }

-- ---- one replacement

-- the text between the positions is removed, with the ranges that it overlaps; if there is none,
-- the cursor moves there, and nothing is selected
unfoldable pub stretch_removed : DocumentState → Place → Place → ℕ → DocumentState
stretch_removed document start stop now =
    if is_before start stop then between_removed document start stop now
    else after_move document start None

-- and then the symbols are inserted there
unfoldable pub stretch_replaced : DocumentState → Place → Place → List Symbol → ℕ → DocumentState
stretch_replaced document start stop symbols now =
    symbols_inserted (stretch_removed document start stop now) symbols now

-- both for the text between two positions, in one group
unfoldable pub range_replaced : DocumentState → Place → Place → List Symbol → ℕ → DocumentState
range_replaced document from to symbols now =
    let text = document.text in
    ended_after document
    (stretch_replaced (begun document) (stretch_start text from to) (stretch_end text from to) symbols now)

-- whether this removes or inserts a symbol
abbrev pub replaces : List Symbol → Place → Place → List Symbol → Bool
replaces text from to symbols =
    is_before (stretch_start text from to) (stretch_end text from to) || has_symbols symbols

-- ---- many replacements, from the first to the last

-- the position this number of symbols after another, or the text's end if there are fewer
abbrev pub place_ahead : List Symbol → Place → ℕ → Place
place_ahead text place count = place_of text (min (index_of text place + count) (length text))

-- the first position after the cursor that is replaced, and the last one
abbrev pub ahead_start : DocumentState → ℕ → Place
ahead_start document skip = place_ahead document.text document.cursor skip

abbrev pub ahead_end : DocumentState → ℕ → ℕ → Place
ahead_end document skip count = place_ahead document.text (ahead_start document skip) count

-- `skip` symbols after the cursor stay, and the `count` symbols after them are replaced
unfoldable pub ahead_replaced : DocumentState → ℕ → ℕ → List Symbol → ℕ → DocumentState
ahead_replaced document skip count symbols now =
    stretch_replaced document (ahead_start document skip) (ahead_end document skip count) symbols now

-- Stretches of a text are replaced one after another. Each is given by the number of symbols
-- before its start and before its end in the text as it was before all of them, and `passed` is
-- the number of those before the cursor, which is after the stretch that was replaced last.
abbrev pub each_replaced : DocumentState → ℕ → List (ℕ × ℕ) → List Symbol → ℕ → DocumentState
each_replaced document passed [] symbols now = document
each_replaced document passed (stretch ∷ rest) symbols now =
    each_replaced (ahead_replaced document (stretch.0 - passed) (stretch.1 - stretch.0) symbols now)
    stretch.1 rest symbols now

-- the cursor is at the text's start, and a group begins
abbrev pub begun_at_start : DocumentState → DocumentState
begun_at_start document = after_move (begun document) (0, 0) None

-- all of them in one group
abbrev pub replaced_in_turn : DocumentState → List (ℕ × ℕ) → List Symbol → ℕ → DocumentState
replaced_in_turn document stretches symbols now =
    ended_after document (each_replaced (begun_at_start document) 0 stretches symbols now)

-- the same, but each line that an edit touches is wrapped once; without any nothing changes
unfoldable pub all_replaced : DocumentState → List (ℕ × ℕ) → List Symbol → ℕ → DocumentState
all_replaced document [] symbols now = document
all_replaced document (stretch ∷ rest) symbols now =
    made_at_once (λ copy. replaced_in_turn copy (stretch ∷ rest) symbols now) document

-- ---- their splices

-- the removal of the text between the positions, if there is any
abbrev pub stretch_removal : DocumentState → Place → Place → List Splice
stretch_removal document start stop =
    if is_before start stop then removal_splices document start stop else []

-- and then the insertion of the symbols, if there are any
unfoldable pub stretch_splices : DocumentState → Place → Place → List Symbol → ℕ → List Splice
stretch_splices document start stop symbols now =
    stretch_removal document start stop
    ++ insertion_splices (stretch_removed document start stop now) symbols

-- those of the replacement of a range
abbrev pub range_splices : DocumentState → Place → Place → List Symbol → ℕ → List Splice
range_splices document from to symbols now =
    let text = document.text in
    stretch_splices (begun document) (stretch_start text from to) (stretch_end text from to) symbols now

-- those of stretches that are replaced one after another
abbrev pub each_splices : DocumentState → ℕ → List (ℕ × ℕ) → List Symbol → ℕ → List Splice
each_splices document passed [] symbols now = []
each_splices document passed (stretch ∷ rest) symbols now =
    let skip = stretch.0 - passed in
    let count = stretch.1 - stretch.0 in
    stretch_splices document (ahead_start document skip) (ahead_end document skip count) symbols now
    ++ each_splices (ahead_replaced document skip count symbols now) stretch.1 rest symbols now

abbrev pub all_splices : DocumentState → List (ℕ × ℕ) → List Symbol → ℕ → List Splice
all_splices document stretches symbols now =
    each_splices (begun_at_start document) 0 stretches symbols now
