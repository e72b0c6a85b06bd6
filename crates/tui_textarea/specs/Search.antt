-- The positions that searches find, and the states after them.
use Rattle.std.specs.Prelude.{ℕ, Bool, List, [], ◌∷◌, length, map, Option, Some, None}
use Rattle.std.specs.Str.{encode_utf8_all}
use Rattle.textarea_text.specs.Text.{Symbol, lines}
use Rattle.textarea_text.specs.Place.{Place}
use Rattle.textarea_search.specs.Counts.{index_at}
use Rattle.textarea_search.specs.Matches.{match_columns}
use Rattle.textarea_search.specs.PlainTexts.{text_pattern}
use Rattle.textarea_search.specs.Starts.{found_start, starts_from}
use Rattle.textarea_search.specs.declared.search.direction.Direction.{Direction}
use Rattle.textarea_search.specs.declared.search.direction.Direction.TheVariants.{Forward, Back}
use Rattle.textarea_data.specs.declared.cursor.CursorUnit.{CursorUnit}
use Rattle.textarea_data.specs.declared.cursor.CursorUnit.TheVariants as unit
use Rattle.textarea_document.specs.Outcomes.{after_move}
use Rattle.tui_textarea.specs.State.{State, with_document}
use Rattle.tui_textarea.specs.WholeMatches.{cluster_starts}

-- the pattern that a text sets: none if it is empty
abbrev pub pattern_in : List ℕ → Option (List ℕ)
pattern_in [] = None
pattern_in (byte ∷ bytes) = Some (byte ∷ bytes)

-- the text is the pattern from now on, and all else stays
abbrev pub with_pattern : State → List ℕ → State
with_pattern state text = record state { pattern = pattern_in text }

-- the pattern of a plain text is the pattern from now on
abbrev pub with_search_text : State → List ℕ → Bool → Bool → State
with_search_text state text ignore_case whole_word = with_pattern state (text_pattern text ignore_case whole_word)

-- the positions at which the pattern's matches in a text start, in order; none without a pattern
abbrev pub starts_in : Option (List ℕ) → List Symbol → List Place
starts_in None text = []
starts_in (Some pattern) text = starts_from (match_columns pattern) 0 (map encode_utf8_all (lines text))

-- those that count: if the cursor goes by clusters, those of the matches that cut none
abbrev pub unit_starts : CursorUnit → Option (List ℕ) → List Symbol → List Place
unit_starts unit.Character pattern text = starts_in pattern text
unit_starts unit.Cluster pattern text = cluster_starts pattern (lines text)

abbrev pub match_starts : State → List Place
match_starts state = unit_starts state.settings.cursor_unit state.pattern state.document.text

-- the number of matches in the text
abbrev pub match_count : State → ℕ
match_count state = length (match_starts state)

-- the number, counted from 0, of the match that starts at the cursor, if one does
abbrev pub match_index : State → Option ℕ
match_index state = index_at state.document.cursor (match_starts state)

-- the position that a search from the cursor finds
abbrev pub found_match : Direction → State → Bool → Option Place
found_match direction state at_cursor =
    found_start direction (match_starts state) state.document.cursor at_cursor

-- the next start after the cursor or, if that counts, at it; past the text's end its first start
abbrev pub next_match : State → Bool → Option Place
next_match state at_cursor = found_match Forward state at_cursor

-- the last start before the cursor or, if that counts, at it; before all starts the last of all
abbrev pub previous_match : State → Bool → Option Place
previous_match state at_cursor = found_match Back state at_cursor

-- the cursor moves to the found position, if any; the anchor stays, and a run of typing ends
abbrev pub after_search : State → Option Place → State
after_search state None = state
after_search state (Some place) = with_document state (after_move state.document place state.document.anchor)
