-- The size of lines by their rows, and the number of their rows, which is no larger.
use Rattle.std.proofs.lemmas.Grind.{common_steps}
use Rattle.std.proofs.Common.{◌≡◌, ℕ, ◌+◌, ◌-◌, ◌<◌, ◌≤◌, inl, inr, max, List, [], ◌∷◌, length, take, drop, ap, refl, ◌∙◌, arith, subst, encode_utf8_all, String}
use Rattle.std.proofs.lemmas.Bool.{cases_lt}
use Rattle.std.proofs.lemmas.List.{take-append-drop, length-append}
use Rattle.std.specs.List.{concat, AllByRecursion}
use Rattle.textarea_text.specs.Size.{size_of, weight}
use Rattle.textarea_text.specs.Text.{characters, following, lines_of}
use Rattle.textarea_text.proofs.Sizes.{size_of-append, weight-append, weight-characters, weight_of_following}
use Rattle.textarea_wrap.specs.WrapRules.{ranges_from}
use Rattle.textarea_wrap.specs.RowsView.{RowsView}
use Rattle.textarea_wrap.specs.WrapResult.{AreRowTexts, IsRowRange, IsWrapped}
use Rattle.textarea_wrap.specs.declared.wrap.WrapMode.{WrapMode}
use Rattle.textarea_screen_map.specs.declared.layout.Wrapping.{Wrapping}
use Rattle.textarea_util.specs.Limit.{size_limit}
use Rattle.textarea_screen_map.specs.BorrowedLines.{AreRowsRight}
use Rattle.textarea_screen_map.specs.LineRows.{AreRowsOf}
use Rattle.textarea_screen_map.specs.Map.{MapView}
use Rattle.textarea_blocks.specs.Sums.{line_bytes, row_total, size_total}
use Rattle.textarea_wrap.proofs.FewestRowLemmas.{length-ranges_from}
use Rattle.textarea_screen_map.proofs.Holding.{last_range, some_rows}

-- there are no more rows than bytes, if no row is empty
rows_within : (line : List ℕ) (at : ℕ) (texts : List (List ℕ)) → (line ≡ [] → ⊥) → AllByRecursion (IsRowRange line) (ranges_from at texts) → length (ranges_from at texts) ≤ length (concat texts)
rows_within line at [] some h = omega arith
rows_within line at (t ∷ texts) some h =
    elim (cases_lt 0 (length t)) [
      | inl more ↦ omega (arith, more, rows_within line (at + length t) texts some h.1, length-append t (concat texts))
      | inr none ↦ absurd (some (h.0.nonempty (omega (arith, none))))
    ]

-- the rows of a line end at the line's end, and are at most its bytes plus one
pub size_of_line : (mode : WrapMode) (tab_len width : ℕ) (line : List ℕ) (ranges : List (ℕ × ℕ)) → IsWrapped mode tab_len width line ranges → (line_bytes ranges ≡ length line) × (length ranges ≤ length line + 1)
size_of_line mode tab_len width line ranges h =
    let some = some_rows mode tab_len width line ranges h in
    let size : length ranges ≡ length (ranges_from 0 h.texts) = ap length h.ranges_are in
    let last : line_bytes ranges ≡ length (concat h.texts) =
    ap line_bytes h.ranges_are ∙ last_range 0 h.texts (length (ranges_from 0 h.texts) - 1) (omega (arith, some, size)) ∙ omega arith in
    (last ∙ ap length h.joined, few line h.texts ranges h.ranges_are h.wrapped h.joined h.placed)
  where
    few :
        (line : List ℕ) (texts : List (List ℕ)) (ranges : List (ℕ × ℕ)) → ranges ≡ ranges_from 0 texts → AreRowTexts mode tab_len width line texts
        → concat texts ≡ line → AllByRecursion (IsRowRange line) ranges → length ranges ≤ length line + 1
    few [] texts ranges is wrapped joined placed = omega (arith, ap length is, length-ranges_from 0 texts, ap length wrapped)
    few (byte ∷ line) texts ranges is wrapped joined placed =
        omega (arith, ap length is, ap length joined, rows_within (byte ∷ line) 0 texts (λ e. absurd (omega (arith, ap length e))) (subst (AllByRecursion (IsRowRange (byte ∷ line))) is placed))

-- lines have the size that their rows give, and no more rows than that
pub size_of_lines : (w : Wrapping) (lines : List (List ℕ)) (rows : List RowsView) → AreRowsOf w lines rows → (size_total rows ≡ weight (following lines)) × (row_total rows ≤ size_total rows)
size_of_lines w [] [] h = (refl, omega arith)
size_of_lines w [] (r ∷ rows) h = absurd h
size_of_lines w (line ∷ lines) [] h = absurd h
size_of_lines w (line ∷ lines) (r ∷ rows) h =
    grind (arith, common_steps, size_of_line w.mode w.tab_len (max w.width 1) (encode_utf8_all line) r.ranges h.0.wrapped, size_of_lines w lines rows h.1, weight-append (characters line) (following lines), weight-characters line)

-- the same for lines as they are stored
pub size_of_items : {Z : Type 0} (w : Wrapping) (items : List (String Z)) (rows : List RowsView) → AreRowsOf w (lines_of items) rows → (size_total rows ≡ size_of items) × (row_total rows ≤ size_of items)
size_of_items w items rows h = grind (arith, common_steps, size_of_lines w (lines_of items) rows h, weight_of_following items)

-- the first lines are no larger than all
pub size_of_take : {Z : Type 0} (items : List (String Z)) (n : ℕ) → size_of (take n items) ≤ size_of items
size_of_take items n = omega (arith, size_of-append (take n items) (drop n items), ap size_of (take-append-drop n items))

-- if there is a line, there is a row
pub some_row : (w : Wrapping) (lines : List (List ℕ)) (rows : List RowsView) → AreRowsOf w lines rows → 0 < length lines → 0 < row_total rows
some_row w [] rows h some = absurd (omega (arith, some))
some_row w (line ∷ lines) [] h some = absurd h
some_row w (line ∷ lines) (r ∷ rest) h some =
    omega (arith, some_rows w.mode w.tab_len (max w.width 1) (encode_utf8_all line) r.ranges h.0.wrapped)

-- and if there is a row, there is a line
pub some_line : (w : Wrapping) (lines : List (List ℕ)) (rows : List RowsView) → AreRowsOf w lines rows → 0 < row_total rows → 0 < length lines
some_line w [] [] h some = absurd (omega (arith, some))
some_line w [] (r ∷ rest) h some = absurd h
some_line w (line ∷ lines) rows h some = omega arith

-- the lines of a map, if there is one, can be borrowed with it
pub lent_rows : {Z : Type 0} (items : List (String Z)) (map : MapView) → AreRowsOf map.wrapping (lines_of items) map.rows → size_total map.rows ≤ size_limit → 0 < length items → AreRowsRight items map
lent_rows items map right few some =
    record { some = some; limit = omega (arith, few, (size_of_items map.wrapping items map.rows right).0); right = right }
