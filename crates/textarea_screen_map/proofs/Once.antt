-- A position is in only one visual row, since the rows of a line don't overlap.
use Rattle.std.proofs.Common.{ap₂, ◌≡◌, ℕ, zero, suc, ◌+◌, ◌<◌, ◌≤◌, inl, inr, false, List, [], ◌∷◌, length, take, get_or, sym, ap, ◌∙◌, arith}
use Rattle.std.proofs.lemmas.Bool.{cases_lt}
use Rattle.textarea_text.specs.Place.{Place}
use Rattle.textarea_text.proofs.Columns.{offset_in}
use Rattle.textarea_wrap.specs.WrapRules.{ranges_from}
use Rattle.textarea_wrap.specs.RowsView.{RowsView}
use Rattle.textarea_screen_map.specs.declared.layout.VisualPosition.{VisualPosition}
use Rattle.textarea_screen_map.specs.declared.layout.Wrapping.{Wrapping}
use Rattle.textarea_screen_map.specs.LineRows.{AreRowsOf}
use Rattle.textarea_blocks.specs.Sums.{ranges_at, range_at, row_total}
use Rattle.textarea_screen_map.specs.VisualRows.{row_at}
use Rattle.textarea_screen_map.specs.VisualPositions.{IsAbove, IsBelow, IsVisualPosition}
use Rattle.textarea_screen_map.proofs.Holding.{wrapped_at}
use Rattle.textarea_screen_map.proofs.RowSlices.{offset_less, row_within}
use Rattle.textarea_screen_map.proofs.ThereAndBack.{one_place}
use Rattle.textarea_screen_map.proofs.VisualRows.{IsRowSlice, row_slice}

begins_later : (at : ℕ) (texts : List (List ℕ)) (k : ℕ) → k < length (ranges_from at texts) → at ≤ (range_at (ranges_from at texts) k).0
begins_later at [] k h = absurd (omega arith)
begins_later at (t ∷ texts) zero h = omega arith
begins_later at (t ∷ texts) (suc k) h = omega (arith, begins_later (at + length t) texts k (omega arith))

ranges_apart : (at : ℕ) (texts : List (List ℕ)) (k j : ℕ) → k < j → j < length (ranges_from at texts) → (range_at (ranges_from at texts) k).1 ≤ (range_at (ranges_from at texts) j).0
ranges_apart at [] k j less h = absurd (omega arith)
ranges_apart at (t ∷ texts) k zero less h = absurd (omega arith)
ranges_apart at (t ∷ texts) zero (suc j) less h = begins_later (at + length t) texts j (omega arith)
ranges_apart at (t ∷ texts) (suc k) (suc j) less h = ranges_apart (at + length t) texts k j (omega arith) (omega arith)

-- of two rows of a line, the later one begins at or after the end of the other
apart :
    (w : Wrapping) (lines : List (List ℕ)) (rows : List RowsView) (a b : ℕ) (p : IsRowSlice lines rows a) (q : IsRowSlice lines rows b) → AreRowsOf w lines rows → q.line ≡ p.line → p.number < q.number
    → ((row_at lines rows a).first + length (row_at lines rows a).text ≤ (row_at lines rows b).first) × ((row_at lines rows a).is_last ≡ false)
apart w lines rows a b p q h same less =
    let line = get_or lines p.line [] in
    let ranges = ranges_at rows p.line in
    let wrapped = wrapped_at w lines rows p.line h p.within in
    let there : q.number < length ranges = omega (arith, q.there, ap (λ (n : ℕ). length (ranges_at rows n)) same) in
    let ends : offset_in line (length p.sliced.front + length p.sliced.text) ≡ (range_at ranges p.number).1 = p.sliced.ends in
    let begins : offset_in line (length q.sliced.front) ≡ (range_at ranges q.number).0 =
    ap (λ (n : ℕ). offset_in (get_or lines n []) (length q.sliced.front)) (sym same) ∙ q.sliced.begins ∙ ap (λ (n : ℕ). (range_at (ranges_at rows n) q.number).0) same in
    let ordered : (range_at ranges p.number).1 ≤ (range_at ranges q.number).0 =
    omega (
      arith,
      ap (λ (t : List (ℕ × ℕ)). (range_at t p.number).1) wrapped.ranges_are,
      ap (λ (t : List (ℕ × ℕ)). (range_at t q.number).0) wrapped.ranges_are,
      ranges_apart 0 wrapped.texts p.number q.number less (omega (arith, there, ap length wrapped.ranges_are)),
    ) in (
      elim (cases_lt (length q.sliced.front) (length p.sliced.front + length p.sliced.text)) [
        | inl over ↦ absurd (omega (arith, ends, begins, ordered, offset_less line (length q.sliced.front) (length p.sliced.front + length p.sliced.text) over (row_within line (range_at ranges p.number) p.sliced)))
        | inr fine ↦ omega (arith, fine, p.first_is, p.size_is, q.first_is)
      ],
      p.more (omega (arith, less, there)),
    )

not_before :
    (w : Wrapping) (lines : List (List ℕ)) (rows : List RowsView) (t : ℕ) (place : Place) (a b : VisualPosition) (p : IsRowSlice lines rows a.row) (q : IsRowSlice lines rows b.row)
    → AreRowsOf w lines rows → IsVisualPosition t lines rows place a → IsVisualPosition t lines rows place b → p.number < q.number → ⊥
not_before w lines rows t place a b p q h s u less =
    let same : q.line ≡ p.line = sym q.line_is ∙ sym u.holds.line ∙ s.holds.line ∙ p.line_is in
    let parted = apart w lines rows a.row b.row p q h same less in
    omega (arith, parted.0, s.holds.before_next parted.1, u.holds.from)

pub one_visual_position :
    (w : Wrapping) (lines : List (List ℕ)) (rows : List RowsView) (place : Place) (a b : VisualPosition) → AreRowsOf w lines rows
    → IsVisualPosition w.tab_len lines rows place a → IsVisualPosition w.tab_len lines rows place b → a ≡ b
one_visual_position w lines rows place a b h s u =
    let p = row_slice w lines rows a.row h s.row in
    let q = row_slice w lines rows b.row h u.row in
    let line : p.line ≡ q.line = sym p.line_is ∙ sym s.holds.line ∙ u.holds.line ∙ q.line_is in
    let number : p.number ≡ q.number =
    elim (cases_lt p.number q.number) [
      | inl less ↦ absurd (not_before w lines rows w.tab_len place a b p q h s u less)
      | inr more ↦ elim (cases_lt q.number p.number) [ inl less ↦ absurd (not_before w lines rows w.tab_len place b a q p h u s less) | inr most ↦ omega (arith, more, most) ]
    ] in
    let row : a.row ≡ b.row = omega (arith, p.row_is, q.row_is, ap (λ (n : ℕ). row_total (take n rows)) line, number) in
    ap₂ (λ (m n : ℕ). record { row = m; column = n }) row (cc (s.column, row, u.column))

pub one_above : (w : Wrapping) (lines : List (List ℕ)) (rows : List RowsView) (place target other : Place) → AreRowsOf w lines rows → IsAbove w.tab_len lines rows place target → IsAbove w.tab_len lines rows place other → target ≡ other
one_above w lines rows place target other h p q =
    one_place w.tab_len lines rows _ target other (rw (one_visual_position w lines rows place p.visual q.visual h p.visual_position q.visual_position) at p.near) q.near

pub one_below : (w : Wrapping) (lines : List (List ℕ)) (rows : List RowsView) (place target other : Place) → AreRowsOf w lines rows → IsBelow w.tab_len lines rows place target → IsBelow w.tab_len lines rows place other → target ≡ other
one_below w lines rows place target other h p q =
    one_place w.tab_len lines rows _ target other (rw (one_visual_position w lines rows place p.visual q.visual h p.visual_position q.visual_position) at p.near) q.near
