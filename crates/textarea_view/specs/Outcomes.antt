-- The block, placeholder and heights after a call that sets one of them.
use Rattle.std.specs.Prelude.{ℕ, max, List, [], ◌∷◌}
use Rattle.textarea_screen.specs.Style.{empty_style}
use Rattle.textarea_screen.specs.Text.{LineView}
use Rattle.textarea_screen.specs.Text.ContentView.{OwnedBytes}
use Rattle.textarea_screen.specs.declared.screen.style.Style.{Style}
use Rattle.textarea_view.specs.SurroundState.{SurroundState}

-- a line of one span with the whole text, including any line feed, in no style of its own
abbrev pub plain_line : List ℕ → LineView
plain_line bytes = record { spans = record { content = OwnedBytes bytes; style = empty_style } ∷ []; style = empty_style }

-- the lines of a placeholder that is set to a text: one line, or none for the empty text
abbrev pub plain_lines : List ℕ → List LineView
plain_lines [] = []
plain_lines (byte ∷ bytes) = plain_line (byte ∷ bytes) ∷ []

abbrev pub with_placeholder_text : SurroundState → List ℕ → SurroundState
with_placeholder_text surround bytes = record surround { placeholder = record surround.placeholder { lines = plain_lines bytes } }

abbrev pub with_placeholder_style : SurroundState → Style → SurroundState
with_placeholder_style surround style = record surround { placeholder = record surround.placeholder { style = style } }

-- a number of rows to set; 0 counts as 1
abbrev pub rows_set : ℕ → ℕ
rows_set rows = max rows 1

-- the least height is set, and a lower greatest height is raised to it
abbrev pub with_min_rows : SurroundState → ℕ → SurroundState
with_min_rows surround rows = record surround { min_rows = rows_set rows; max_rows = max surround.max_rows (rows_set rows) }

-- the greatest height is set, or raised to the least if it is lower
abbrev pub with_max_rows : SurroundState → ℕ → SurroundState
with_max_rows surround rows = record surround { max_rows = max (rows_set rows) surround.min_rows }
