-- From a position to its visual row and column, and back.
use Rattle.std.proofs.lemmas.Grind.{common_steps}
use Rattle.std.proofs.Common.{ap₂, ◌≡◌, ℕ, ◌+◌, ◌-◌, ◌<◌, ◌≤◌, inl, inr, min, false, true, Bool, cond, List, length, sym, ap, refl, subst, ◌∙◌, arith}
use Rattle.std.proofs.lemmas.Bool.{cases_lt}
use Rattle.std.proofs.Math.Seq.{take-length}
use Rattle.textarea_util.specs.Limit.{size_limit}
use Rattle.textarea_text.specs.Place.{Place, IsPlaceOf}
use Rattle.textarea_wrap.specs.Columns.{display_end_column}
use Rattle.textarea_wrap.specs.RowsView.{RowsView}
use Rattle.textarea_screen_map.specs.declared.layout.VisualPosition.{VisualPosition}
use Rattle.textarea_screen_map.specs.declared.layout.Wrapping.{Wrapping}
use Rattle.textarea_screen_map.specs.LineRows.{AreRowsOf}
use Rattle.textarea_blocks.specs.Sums.{row_total}
use Rattle.textarea_screen_map.specs.VisualRows.{VisualRow, visual_rows, row_at, column_at, greatest_column}
use Rattle.textarea_screen_map.specs.VisualPositions.{HasNoZeroWidth, IsAbove, IsBelow, IsPlaceAt, IsPlaceNear, IsVisualPosition, LeadsTo}
use Rattle.textarea_screen_map.proofs.RowColumns.{column_at-le, column_at-less}
use Rattle.textarea_screen_map.proofs.VisualRows.{row_count, row_of}

-- a position in the row, at or before its column
pub leads_within : (t : ℕ) (text : List ℕ) (column index : ℕ) → LeadsTo t text column index → (index ≤ length text) × (column_at t text index ≤ column)
leads_within t text column index (inl h) = (h.0, omega (arith, h.1))
leads_within t text column index (inr (inl h)) = (omega (arith, h.0), omega (arith, h.1))
leads_within t text column index (inr (inr h)) = (omega (arith, h.0), omega (arith, h.1))

-- all positions before it are before the column
before_it : (t : ℕ) (text : List ℕ) (column index k : ℕ) → LeadsTo t text column index → k < index → column_at t text k < column
before_it t text column index k (inl h) below =
    elim (cases_lt (column_at t text k) column) [
      | inl less ↦ less
      | inr more ↦ absurd (h.2 k below (omega (arith, more, h.1, column_at-le t text k index (omega arith))))
    ]
before_it t text column index k (inr (inl h)) below = omega (arith, h.1, column_at-le t text k index (omega arith))
before_it t text column index k (inr (inr h)) below = omega (arith, h.1, column_at-le t text k index (omega arith))

-- no column leads to a position after one that it reaches or covers
not_after : (t : ℕ) (text : List ℕ) (column index other : ℕ) → LeadsTo t text column index → LeadsTo t text column other → index < other → ⊥
not_after t text column index other (inl h) k less = absurd (omega (arith, h.1, before_it t text column other index k less))
not_after t text column index other (inr (inl h)) k less =
    absurd (omega (arith, h.2, leads_within t text column other k, column_at-le t text (index + 1) other (omega arith)))
not_after t text column index other (inr (inr h)) k less = absurd (omega (arith, h.0, leads_within t text column other k))

pub leads_to_one : (t : ℕ) (text : List ℕ) (column index other : ℕ) → LeadsTo t text column index → LeadsTo t text column other → index ≡ other
leads_to_one t text column index other h k =
    elim (cases_lt index other) [
      | inl less ↦ absurd (not_after t text column index other h k less)
      | inr more ↦ elim (cases_lt other index) [ inl less ↦ absurd (not_after t text column other index k h less) | inr most ↦ omega (arith, more, most) ]
    ]

-- if each character has a column, a position's own column leads to it
leads_back : (t : ℕ) (text : List ℕ) (index : ℕ) → HasNoZeroWidth text → index ≤ length text → LeadsTo t text (column_at t text index) index
leads_back t text index all within =
    inl (within, refl, λ k below e. absurd (omega (arith, e, column_at-less t text k index all below within)))

same_place : (a b : Place) (first : ℕ) → a.0 ≡ b.0 → first ≤ a.1 → first ≤ b.1 → a.1 - first ≡ b.1 - first → a ≡ b
same_place a b first rows from from' e =
    ap₂ (λ (m n : ℕ). (m, n)) rows (omega arith)

pub visual_round_trip :
    (t : ℕ) (lines : List (List ℕ)) (rows : List RowsView) (place : Place) (visual : VisualPosition) (found : Place)
    → IsVisualPosition t lines rows place visual → HasNoZeroWidth (row_at lines rows visual.row).text → IsPlaceAt t lines rows visual found → found ≡ place
visual_round_trip t lines rows place visual found s all f =
    let row = row_at lines rows visual.row in
    let back : LeadsTo t row.text visual.column (place.1 - row.first) = rw s.column (leads_back t row.text (place.1 - row.first) all (omega (arith, s.holds.to))) in
    same_place found place row.first (f.line ∙ sym s.holds.line) f.from s.holds.from (leads_to_one t row.text visual.column (found.1 - row.first) (place.1 - row.first) f.leads back)

pub one_place : (t : ℕ) (lines : List (List ℕ)) (rows : List RowsView) (visual : VisualPosition) (place other : Place) → IsPlaceAt t lines rows visual place → IsPlaceAt t lines rows visual other → place ≡ other
one_place t lines rows visual place other p o =
    let row = row_at lines rows visual.row in
    same_place place other row.first (p.line ∙ sym o.line) p.from o.from (leads_to_one t row.text visual.column (place.1 - row.first) (other.1 - row.first) p.leads o.leads)

pub is_place : (w : Wrapping) (lines : List (List ℕ)) (rows : List RowsView) (visual : VisualPosition) (place : Place) → AreRowsOf w lines rows → IsPlaceAt w.tab_len lines rows visual place → IsPlaceOf lines place
is_place w lines rows visual place h p = grind (arith, common_steps, row_of w lines rows visual.row h p.row, leads_within)

-- a column up to the greatest one doesn't lead to the end of a row that isn't its line's last
inside_row : (t : ℕ) (row : VisualRow) (column index : ℕ) → LeadsTo t row.text column index → column ≤ greatest_column t row → (row.is_last ≡ false → 0 < length row.text) → row.is_last ≡ false → index < length row.text
inside_row t row column index h small some e =
    let greatest : greatest_column t row ≡ column_at t row.text (length row.text - 1) = ap (λ (b : Bool). cond b (display_end_column t 0 row.text) (column_at t row.text (length row.text - 1))) e in
    elim (cases_lt index (length row.text)) [
      | inl less ↦ less
      | inr more ↦ absurd (omega (arith, small, greatest, some e, before_it t row.text column index (length row.text - 1) h (omega (arith, some e, more))))
    ]

pub visual_there :
    (w : Wrapping) (lines : List (List ℕ)) (rows : List RowsView) (visual : VisualPosition) (place : Place) → AreRowsOf w lines rows
    → IsPlaceAt w.tab_len lines rows visual place → visual.column ≤ greatest_column w.tab_len (row_at lines rows visual.row)
    → (column : ℕ) × (column ≤ visual.column) × IsVisualPosition w.tab_len lines rows place (record visual { column = column })
visual_there w lines rows visual place h p small =
    let known = row_of w lines rows visual.row h p.row in
    let row = row_at lines rows visual.row in
    let found = leads_within w.tab_len row.text visual.column (place.1 - row.first) p.leads in (
      column_at w.tab_len row.text (place.1 - row.first),
      found.1,
      record {
        row = p.row;
        holds = record {
          line = p.line;
          from = p.from;
          to = omega (arith, p.from, found.0);
          before_next = λ e. omega (arith, p.from, inside_row w.tab_len row visual.column (place.1 - row.first) p.leads small known.some e);
        };
        column = refl;
      },
    )

pub visual_near :
    (w : Wrapping) (lines : List (List ℕ)) (rows : List RowsView) (visual : VisualPosition) (place : Place) → AreRowsOf w lines rows → IsPlaceNear w.tab_len lines rows visual place
    → (column : ℕ) × (column ≤ visual.column) × IsVisualPosition w.tab_len lines rows place (record visual { column = column })
visual_near w lines rows visual place h p =
    let greatest = greatest_column w.tab_len (row_at lines rows visual.row) in
    let found = visual_there w lines rows (record visual { column = min visual.column greatest }) place h p (omega arith) in
    (found.0, omega (arith, found.1), found.2)

-- the position that the code finds, from the visual row
pub place_of_index :
    (w : Wrapping) (lines : List (List ℕ)) (rows : List RowsView) (visual : VisualPosition) (row : VisualRow) (index : ℕ) → AreRowsOf w lines rows
    → visual.row < row_total rows → row ≡ row_at lines rows visual.row → LeadsTo w.tab_len row.text visual.column index
    → (row.first + index < size_limit) × IsPlaceAt w.tab_len lines rows visual (row.line, row.first + index)
place_of_index w lines rows visual row index h below is leads =
    let there : visual.row < length (visual_rows lines rows) = omega (arith, below, row_count w lines rows h) in
    let here = row_at lines rows visual.row in
    let known = row_of w lines rows visual.row h there in
    let leads_here : LeadsTo w.tab_len here.text visual.column index = subst (λ (v : VisualRow). LeadsTo w.tab_len v.text visual.column index) is leads in
    let same : index ≡ here.first + index - here.first = omega arith in
    subst (λ (v : VisualRow). (v.first + index < size_limit) × IsPlaceAt w.tab_len lines rows visual (v.line, v.first + index)) (sym is) (
      omega (arith, known.short, (leads_within w.tab_len here.text visual.column index leads_here).0),
      record {
        row = there;
        line = refl;
        from = omega arith;
        leads = subst (λ (n : ℕ). LeadsTo w.tab_len here.text visual.column n) same leads_here;
      },
    )

-- ---- visual positions

pub visual_row_is : (w : Wrapping) (lines : List (List ℕ)) (rows : List RowsView) (place : Place) (visual : VisualPosition) → AreRowsOf w lines rows → IsVisualPosition w.tab_len lines rows place visual → visual.row < row_total rows
visual_row_is w lines rows place visual h s = omega (arith, s.row, row_count w lines rows h)

abbrev greatest_by : Bool → ℕ → VisualRow → ℕ
greatest_by b t row = cond b (display_end_column t 0 row.text) (column_at t row.text (length row.text - 1))

-- a position in a row is at or before the row's greatest cursor column
column_within : (t : ℕ) (row : VisualRow) (index : ℕ) (b : Bool) → row.is_last ≡ b → index ≤ length row.text → (row.is_last ≡ false → index < length row.text) → column_at t row.text index ≤ greatest_by b t row
column_within t row index true e within before =
    subst (λ (text : List ℕ). column_at t row.text index ≤ display_end_column t 0 text) (take-length row.text) (column_at-le t row.text index (length row.text) within)
column_within t row index false e within before = column_at-le t row.text index (length row.text - 1) (omega (arith, before e))

pub visual_column_is : (t : ℕ) (lines : List (List ℕ)) (rows : List RowsView) (place : Place) (visual : VisualPosition) → IsVisualPosition t lines rows place visual → visual.column ≤ greatest_column t (row_at lines rows visual.row)
visual_column_is t lines rows place visual s = grind (arith, common_steps, column_within)

-- ---- up and down

pub is_above :
    (t : ℕ) (lines : List (List ℕ)) (rows : List RowsView) (place target : Place) (row other column : ℕ) → IsVisualPosition t lines rows place (record { row = row; column = column }) → other + 1 ≡ row
    → IsPlaceNear t lines rows (record { row = other; column = column }) target → IsAbove t lines rows place target
is_above t lines rows place target row other column at step near =
    let is : other ≡ row - 1 = omega (arith, step) in
    record {
      visual = record { row = row; column = column };
      visual_position = at;
      not_first = omega (arith, step);
      near = subst (λ (n : ℕ). IsPlaceNear t lines rows (record { row = n; column = column }) target) is near;
    }

pub is_below :
    (t : ℕ) (lines : List (List ℕ)) (rows : List RowsView) (place target : Place) (row other column : ℕ) → IsVisualPosition t lines rows place (record { row = row; column = column }) → row + 1 ≡ other
    → IsPlaceNear t lines rows (record { row = other; column = column }) target → IsBelow t lines rows place target
is_below t lines rows place target row other column at step near =
    record {
      visual = record { row = row; column = column };
      visual_position = at;
      near = subst (λ (n : ℕ). IsPlaceNear t lines rows (record { row = n; column = column }) target) (sym step) near;
    }
