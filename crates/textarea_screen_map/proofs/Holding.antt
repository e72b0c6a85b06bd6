-- Consecutive rows of one line, and the row of an offset.
use Rattle.std.proofs.Common.{◌≡◌, ℕ, zero, suc, ◌+◌, ◌<◌, ◌≤◌, inl, inr, max, List, [], ◌∷◌, length, get_or, sym, ap, ap₂, refl, ◌∙◌, arith, subst, encode_utf8_all, String, string_bytes}
use Rattle.std.proofs.lemmas.Bool.{cases_lt}
use Rattle.std.proofs.lemmas.List.{length-append, length-map}
use Rattle.std.proofs.Math.ListN.{get_or-map}
use Rattle.std.proofs.lemmas.Str.{encodes-chars, IsUtf8-string_bytes}
use Rattle.std.specs.List.{concat}
use Rattle.textarea_text.specs.Text.{characters_of, lines_of}
use Rattle.textarea_text.proofs.StringRows.{line_at}
use Rattle.textarea_wrap.specs.Marks.{marks_of}
use Rattle.textarea_wrap.specs.RowsView.{RowsView}
use Rattle.textarea_wrap.specs.WrapRules.{ranges_from}
use Rattle.textarea_wrap.specs.WrapResult.{IsWrapped, IsRowRange, AreRowTexts}
use Rattle.textarea_wrap.specs.declared.wrap.WrapMode.{WrapMode}
use Rattle.textarea_wrap.proofs.FewestRowLemmas.{length-ranges_from}
use Rattle.textarea_screen_map.specs.declared.layout.Wrapping.{Wrapping}
use Rattle.textarea_screen_map.specs.LineRows.{AreRowsOf, AreRowsOfLine}
use Rattle.textarea_blocks.specs.Sums.{marks_at, ranges_at, range_at}
use Rattle.textarea_util.proofs.Alls.{all_at}

-- a row begins where the one before it ends
next_range : (at : ℕ) (texts : List (List ℕ)) (k : ℕ) → k + 1 < length (ranges_from at texts) → (range_at (ranges_from at texts) (k + 1)).0 ≡ (range_at (ranges_from at texts) k).1
next_range at [] k within = absurd (omega arith)
next_range at (t ∷ []) k within = absurd (omega arith)
next_range at (t ∷ u ∷ rest) zero within = refl
next_range at (t ∷ u ∷ rest) (suc k) within =
    let step : suc k + 1 ≡ suc (k + 1) = omega arith in
    ap (λ n. (range_at (ranges_from at (t ∷ u ∷ rest)) n).0) step ∙ next_range (at + length t) (u ∷ rest) k (omega arith)

-- the last row ends at the line's end
pub last_range : (at : ℕ) (texts : List (List ℕ)) (k : ℕ) → k + 1 ≡ length (ranges_from at texts) → (range_at (ranges_from at texts) k).1 ≡ at + length (concat texts)
last_range at [] k last = absurd (omega arith)
last_range at (t ∷ []) zero last = omega (arith, length-append t [])
last_range at (t ∷ []) (suc k) last = absurd (omega arith)
last_range at (t ∷ u ∷ rest) zero last = absurd (omega arith)
last_range at (t ∷ u ∷ rest) (suc k) last =
    omega (arith, last_range (at + length t) (u ∷ rest) k (omega arith), length-append t (concat (u ∷ rest)))

some_texts : (mode : WrapMode) (tab_len width : ℕ) (line : List ℕ) (texts : List (List ℕ)) → AreRowTexts mode tab_len width line texts → concat texts ≡ line → 0 < length texts
some_texts mode tab_len width [] texts wrapped joined = omega (arith, ap length wrapped)
some_texts mode tab_len width (byte ∷ line) [] wrapped joined = absurd (omega (arith, ap length joined))
some_texts mode tab_len width (byte ∷ line) (t ∷ texts) wrapped joined = omega arith

first_range : (at : ℕ) (texts : List (List ℕ)) → 0 < length texts → (range_at (ranges_from at texts) 0).0 ≡ at
first_range at [] some = absurd (omega arith)
first_range at (t ∷ texts) some = refl

-- a line has a row, and the first begins at the line's start
pub some_rows : (mode : WrapMode) (tab_len width : ℕ) (line : List ℕ) (ranges : List (ℕ × ℕ)) → IsWrapped mode tab_len width line ranges → 0 < length ranges
some_rows mode tab_len width line ranges h =
    omega (arith, some_texts mode tab_len width line h.texts h.wrapped h.joined, length-ranges_from 0 h.texts, ap length h.ranges_are)

pub first_begins : (mode : WrapMode) (tab_len width : ℕ) (line : List ℕ) (ranges : List (ℕ × ℕ)) → IsWrapped mode tab_len width line ranges → (range_at ranges 0).0 ≡ 0
first_begins mode tab_len width line ranges h =
    ap (λ (t : List (ℕ × ℕ)). (range_at t 0).0) h.ranges_are ∙ first_range 0 h.texts (some_texts mode tab_len width line h.texts h.wrapped h.joined)

ends : (row n offset end : ℕ) → row < n → (row + 1 < n → offset < end) → (row + 1 ≡ n → offset ≤ end) → offset ≤ end
ends row zero offset end within before last = absurd (omega arith)
ends zero (suc zero) offset end within before last = last refl
ends zero (suc (suc n)) offset end within before last = omega (arith, before (omega arith))
ends (suc row) (suc n) offset end within before last =
    ends row n offset end (omega arith) (λ h. before (omega (arith, h))) (λ e. last (omega (arith, e)))

-- The row of a line that a byte offset belongs to: the offset is at or after the row's first byte
-- and before its end. In the last row of the line it may also be at the end.
pub record HoldsOffset (ranges : List (ℕ × ℕ)) (row offset : ℕ) : Type 0 where
  pub within : row < length ranges
  pub from : (range_at ranges row).0 ≤ offset
  pub to : offset ≤ (range_at ranges row).1
  pub before_next : row + 1 < length ranges → offset < (range_at ranges row).1

-- an offset belongs to the last row that begins at or before it
pub holds_offset :
    (mode : WrapMode) (tab_len width : ℕ) (line : List ℕ) (ranges : List (ℕ × ℕ)) (row offset : ℕ) → IsWrapped mode tab_len width line ranges
    → offset ≤ length line → row < length ranges → (range_at ranges row).0 ≤ offset → (row + 1 < length ranges → offset < (range_at ranges (row + 1)).0) → HoldsOffset ranges row offset
holds_offset mode tab_len width line ranges row offset h inside within from next =
    let before : row + 1 < length ranges → offset < (range_at ranges row).1 =
    λ more. omega (arith, next more, ap (λ (t : List (ℕ × ℕ)). (range_at t (row + 1)).0) h.ranges_are, ap (λ (t : List (ℕ × ℕ)). (range_at t row).1) h.ranges_are, next_range 0 h.texts row (omega (arith, more, ap length h.ranges_are))) in
    let last : row + 1 ≡ length ranges → offset ≤ (range_at ranges row).1 =
    λ e. omega (arith, ap (λ (t : List (ℕ × ℕ)). (range_at t row).1) h.ranges_are, last_range 0 h.texts row (omega (arith, e, ap length h.ranges_are)), ap length h.joined) in
    record {
      within = within;
      from = from;
      to = ends row (length ranges) offset (range_at ranges row).1 within before last;
      before_next = before;
    }

-- one line of some
pub rows_at : (w : Wrapping) (lines : List (List ℕ)) (rows : List RowsView) (i : ℕ) → AreRowsOf w lines rows → i < length lines → AreRowsOfLine w (get_or lines i []) (get_or rows i (record { ranges = []; marks = []; tick = 0 }))
rows_at w [] rows i h within = absurd (omega arith)
rows_at w (line ∷ lines) [] i h within = absurd h
rows_at w (line ∷ lines) (r ∷ rows) zero h within = h.0
rows_at w (line ∷ lines) (r ∷ rows) (suc i) h within = rows_at w lines rows i h.1 (omega arith)

pub wrapped_at : (w : Wrapping) (lines : List (List ℕ)) (rows : List RowsView) (i : ℕ) → AreRowsOf w lines rows → i < length lines → IsWrapped w.mode w.tab_len (max w.width 1) (encode_utf8_all (get_or lines i [])) (ranges_at rows i)
wrapped_at w lines rows i h within = rw (get_or-map (λ (r : RowsView). r.ranges) rows i (record { ranges = []; marks = []; tick = 0 })) (rows_at w lines rows i h within).wrapped

pub range_is : (mode : WrapMode) (tab_len width : ℕ) (line : List ℕ) (ranges : List (ℕ × ℕ)) (row : ℕ) → IsWrapped mode tab_len width line ranges → row < length ranges → IsRowRange line (range_at ranges row)
range_is mode tab_len width line ranges row h within = all_at (IsRowRange line) ranges row (0, 0) h.placed within

-- the bytes of a line, from its `String` and from its characters
pub bytes_of_line : {Z : Type 0} (items : List (String Z)) (i : ℕ) (line : String Z) (text : List ℕ) → i < length items → line ≡ get_or items i line → text ≡ string_bytes line → text ≡ encode_utf8_all (get_or (lines_of items) i [])
bytes_of_line items i line text within read same =
    same ∙ sym (encodes-chars (string_bytes line) (IsUtf8-string_bytes line)) ∙ ap encode_utf8_all (sym (line_at items i line within read))

-- the rows of a line, given by its bytes, and their marks
pub wrapped_line : {Z : Type 0} (w : Wrapping) (items : List (String Z)) (rows : List RowsView) (i : ℕ) (line : String Z) (text : List ℕ) → AreRowsOf w (lines_of items) rows → i < length items
    → line ≡ get_or items i line → text ≡ string_bytes line → IsWrapped w.mode w.tab_len (max w.width 1) text (ranges_at rows i) × (marks_at rows i ≡ marks_of text (ranges_at rows i))
wrapped_line w items rows i line text h within read same =
    let none : RowsView = record { ranges = []; marks = []; tick = 0 } in
    let inside : i < length (lines_of items) = omega (arith, length-map items characters_of, within) in
    let bytes = sym (bytes_of_line items i line text within read same) in
    let ranges = get_or-map (λ (r : RowsView). r.ranges) rows i none in
    let marks = get_or-map (λ (r : RowsView). r.marks) rows i none in (
      subst (λ t. IsWrapped w.mode w.tab_len (max w.width 1) t (ranges_at rows i)) bytes (wrapped_at w (lines_of items) rows i h inside),
      marks ∙ (rows_at w (lines_of items) rows i h inside).marked ∙ ap₂ (λ (t : List ℕ) (r : List (ℕ × ℕ)). marks_of t r) bytes (sym ranges),
    )

-- ---- a row and an offset as in the code

pub wrapped_of :
    (w : Wrapping) (lines : List (List ℕ)) (rows : List RowsView) (i : ℕ) (ranges : List (ℕ × ℕ)) → ranges ≡ ranges_at rows i → AreRowsOf w lines rows
    → i < length lines → IsWrapped w.mode w.tab_len (max w.width 1) (encode_utf8_all (get_or lines i [])) ranges
wrapped_of w lines rows i ranges e h within =
    subst (λ (t : List (ℕ × ℕ)). IsWrapped w.mode w.tab_len (max w.width 1) (encode_utf8_all (get_or lines i [])) t) (sym e) (wrapped_at w lines rows i h within)

-- a row that isn't its line's last is not empty
one_row_of_none : (mode : WrapMode) (tab_len width : ℕ) (line : List ℕ) (texts : List (List ℕ)) → line ≡ [] → AreRowTexts mode tab_len width line texts → length texts ≡ 1
one_row_of_none mode tab_len width [] texts e wrapped = ap length wrapped
one_row_of_none mode tab_len width (byte ∷ line) texts e wrapped = absurd (omega (arith, ap length e))

pub some_bytes : (mode : WrapMode) (tab_len width : ℕ) (line : List ℕ) (ranges : List (ℕ × ℕ)) (row : ℕ) → IsWrapped mode tab_len width line ranges → row + 1 < length ranges → (range_at ranges row).0 < (range_at ranges row).1
some_bytes mode tab_len width line ranges row h more =
    let range = range_is mode tab_len width line ranges row h (omega arith) in
    elim (cases_lt (range_at ranges row).0 (range_at ranges row).1) [
      | inl less ↦ less
      | inr most ↦
          absurd (omega (arith, one_row_of_none mode tab_len width line h.texts (range.nonempty (omega (arith, range.ordered, most))) h.wrapped, length-ranges_from 0 h.texts, ap length h.ranges_are, more))
    ]
