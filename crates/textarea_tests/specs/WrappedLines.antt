-- Text areas of the worked cases of the wrap counter, and calls on them.
use Rattle.std.specs.Prelude.{◌≡◌, ℕ, List, [], ◌∷◌, replicate}
use Rattle.std.specs.List.{range_with_len}
use Rattle.textarea_data.specs.declared.cursor.CursorMove.TheVariants.{Bottom, End}
use Rattle.textarea_document.specs.Outcomes.{after_redo, after_undo}
use Rattle.textarea_text.specs.Fragment.{fragment_symbols}
use Rattle.textarea_screen.specs.declared.screen.rect.Rect.{Rect}
use Rattle.textarea_screen.specs.declared.screen.style.Style.{Style}
use Rattle.textarea_text.specs.Text.{Symbol, joined}
use Rattle.textarea_wrap.specs.declared.wrap.WrapMode.{WrapMode}
use Rattle.textarea_wrap.specs.declared.wrap.WrapMode.TheVariants as mode
use Rattle.tui_textarea.specs.Drawing.{IsRendered}
use Rattle.tui_textarea.specs.Edits.{char_inserted, str_inserted}
use Rattle.tui_textarea.specs.LayoutCalls.{with_line_numbers, with_wrap_mode}
use Rattle.tui_textarea.specs.Moves.{IsMoved}
use Rattle.tui_textarea.specs.State.{State, new_state, with_document}

-- the number of lines that were wrapped so far
abbrev pub wrapped_so_far : State → ℕ
wrapped_so_far state = state.document.layout.count

-- this number of equal lines, each of this number of letters from `a` on
abbrev pub lettered : ℕ → ℕ → List Symbol
lettered lines letters = joined (replicate lines (range_with_len 97 letters))

-- a hundred lines `abcdefgh`, wrapped by grapheme clusters
abbrev pub hundred_lines : State
hundred_lines = with_wrap_mode (new_state (lettered 100 8)) mode.Glyph

-- nine lines `abcdefg` with line numbers, in a mode
abbrev pub nine_lines : WrapMode → Style → State
nine_lines mode style = with_line_numbers (with_wrap_mode (new_state (lettered 9 7)) mode) style

abbrev pub with_a : State → State
with_a state = char_inserted state 97

-- three lines `x`, `y` and `z` are inserted
abbrev pub with_x_y_z : State → State
with_x_y_z state = str_inserted state (fragment_symbols (120 ∷ 10 ∷ 121 ∷ 10 ∷ 122 ∷ []))

-- the newest edit is undone; and redone
abbrev pub with_undone : State → State
with_undone state = with_document state (after_undo state.document)

abbrev pub with_redone : State → State
with_redone state = with_document state (after_redo state.document)

-- the cursor has moved to the last line, and to its end
abbrev pub IsAtEndOf : State → State → Type 0
IsAtEndOf old new = (below : State) × IsMoved old Bottom below × IsMoved below End new

-- ---- what is said of them

-- the fact holds after a drawing of the hundred lines into an area of 6 columns
abbrev pub HoldsForHundred : (State → Type 0) → Type 0
HoldsForHundred Fact = (drawn : State) (area : Rect) → area.width ≡ 6 → IsRendered hundred_lines area drawn → Fact drawn

-- the fact holds at the end of the nine lines in a mode, after a drawing into an area of this width
abbrev pub HoldsForNine : WrapMode → ℕ → (State → Type 0) → Type 0
HoldsForNine mode width Fact =
    (style : Style) (drawn ended : State) (area : Rect) → area.width ≡ width →
    IsRendered (nine_lines mode style) area drawn → IsAtEndOf drawn ended → Fact ended
