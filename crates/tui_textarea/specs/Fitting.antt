-- What still fits into a text that has at most so many symbols.
use Rattle.std.specs.Prelude.{ℕ, ◌+◌, ◌-◌, ◌*◌, ◌&&◌, ◌||◌, Bool, List, Option, None, Some, drop, length, min, nat_le, not, take, true, [], ◌∷◌}
use Rattle.textarea_clusters.specs.Edges.{edge_back}
use Rattle.textarea_document.specs.Indenting.{line_stretches, tab_of}
use Rattle.textarea_document.specs.Replacing.{stretch_symbols}
use Rattle.textarea_document.specs.Selection.{first_selected_row, is_selected, last_selected_row}
use Rattle.textarea_text.specs.Between.{symbols_between}
use Rattle.textarea_text.specs.Place.{Place, line_of, place_of}
use Rattle.textarea_text.specs.Text.{Symbol, following, lines}
use Rattle.tui_textarea.specs.Selection.{unselected}
use Rattle.tui_textarea.specs.State.{State}

-- ---- a text that is cut

-- the last position in these lines, up to this one, at which a grapheme cluster ends
abbrev pub cluster_end : List (List ℕ) → Place → Place
cluster_end rows place = (place.0, edge_back (line_of rows place.0) place.1)

-- the longest beginning of the text that has at most so many symbols and ends with a cluster of the
-- text; a break is a cluster of its own
abbrev pub beginning : List Symbol → ℕ → List Symbol
beginning symbols most =
    symbols_between symbols (0, 0) (cluster_end (lines symbols) (place_of symbols (min most (length symbols))))

-- what fits of it beside so many other symbols: all without a maximum
abbrev pub fitting_beside : Option ℕ → ℕ → List Symbol → List Symbol
fitting_beside None others symbols = symbols
fitting_beside (Some maximum) others symbols = beginning symbols (maximum - others)

-- what fits of it in place of the selected text
abbrev pub fitting_selection : State → List Symbol → List Symbol
fitting_selection state symbols =
    fitting_beside state.settings.max_chars (length (unselected state).document.text) symbols

-- so many spaces, as far as they fit into the text
abbrev pub fitting_count : Option ℕ → ℕ → ℕ → ℕ
fitting_count None others count = count
fitting_count (Some maximum) others count = min count (maximum - others)

-- what fits of it in place of the text between two positions
abbrev pub fitting_between : State → Place → Place → List Symbol → List Symbol
fitting_between state from to symbols =
    let text = state.document.text in
    fitting_beside state.settings.max_chars (length text - length (stretch_symbols text from to)) symbols

-- ---- what is made as a whole, or not at all

-- so many symbols are not too many
abbrev pub is_allowed : Option ℕ → ℕ → Bool
is_allowed None count = true
is_allowed (Some maximum) count = nat_le count maximum

-- so many symbols fit in place of so many others of the text: no more always do
abbrev pub fits_for : State → ℕ → ℕ → Bool
fits_for state removed inserted =
    nat_le inserted removed || is_allowed state.settings.max_chars (length state.document.text - removed + inserted)

-- no typed character fits; one that replaces a selected text always does
abbrev pub has_no_room : State → Bool
has_no_room state = not (is_selected state.document) && not (fits_for state 0 1)

-- the selection's lines, or the cursor's line, fit once more
abbrev pub fits_duplicate : State → Bool
fits_duplicate state =
    let document = state.document in
    fits_for state 0 (length (following (drop (first_selected_row document) (take (last_selected_row document + 1) (lines document.text)))))

-- a tab fits at the start of each of these lines
abbrev pub fits_indent : State → Bool
fits_indent state =
    fits_for state 0 (length (line_stretches state.document None) * length (tab_of state.document state.settings.hard_tab_indent))

-- the symbols fit in place of each of these stretches
abbrev pub removed_by : List (ℕ × ℕ) → ℕ
removed_by [] = 0
removed_by (stretch ∷ rest) = stretch.1 - stretch.0 + removed_by rest

abbrev pub fits_each : State → List (ℕ × ℕ) → List Symbol → Bool
fits_each state stretches symbols = fits_for state (removed_by stretches) (length stretches * length symbols)
