-- Where paragraphs begin in a list of lines.
use Rattle.std.specs.Prelude.{ℕ, ◌-◌, Bool, true, false, ◌&&◌, not, nat_lt, List, [], ◌∷◌, length, slice_index_or, Option}
use Rattle.textarea_text.specs.Nearest.{least_below, greatest_below}

-- the line has no characters
abbrev pub is_empty_line : List ℕ → Bool
is_empty_line [] = true
is_empty_line (c ∷ line) = false

-- a paragraph begins at this row: its line has characters, and the line above has none
abbrev pub is_paragraph_start : List (List ℕ) → ℕ → Bool
is_paragraph_start lines row =
    nat_lt 0 row
    && (nat_lt row (length lines)
    && (not (is_empty_line (slice_index_or lines row [])) && is_empty_line (slice_index_or lines (row - 1) [])))

-- what the two searches look for from the row `start`
abbrev pub is_later_paragraph_start : List (List ℕ) → ℕ → ℕ → Bool
is_later_paragraph_start lines start row = nat_lt start row && is_paragraph_start lines row

abbrev pub is_earlier_paragraph_start : List (List ℕ) → ℕ → ℕ → Bool
is_earlier_paragraph_start lines start row = nat_lt row start && is_paragraph_start lines row

-- the least row after `start` at which a paragraph begins
abbrev pub next_paragraph_start : List (List ℕ) → ℕ → Option ℕ
next_paragraph_start lines start = least_below (is_later_paragraph_start lines start) (length lines)

-- the greatest row before `start` at which a paragraph begins
abbrev pub previous_paragraph_start : List (List ℕ) → ℕ → Option ℕ
previous_paragraph_start lines start = greatest_below (is_earlier_paragraph_start lines start) (length lines)
