-- Lists of right rows of the same lines that have the same ranges and the same ticks are one list.
use Rattle.std.proofs.Common.{◌≡◌, ℕ, List, [], ◌∷◌, ap, ap₂, map, refl, sym, ◌∙◌, encode_utf8_all}
use Rattle.textarea_wrap.specs.Marks.{marks_of}
use Rattle.textarea_wrap.specs.RowsView.{RowsView}
use Rattle.textarea_screen_map.specs.LineRows.{AreRowsOf, ticks_of}
use Rattle.textarea_screen_map.specs.declared.layout.Wrapping.{Wrapping}

pub row_same : (row other : RowsView) → row.ranges ≡ other.ranges → row.marks ≡ other.marks → row.tick ≡ other.tick → row ≡ other
row_same row other ranges marks tick = rw (ranges, marks, tick) refl

pub rows_same :
    (w : Wrapping) (lines : List (List ℕ)) (rows others : List RowsView) → AreRowsOf w lines rows → AreRowsOf w lines others
    → map (λ (r : RowsView). r.ranges) rows ≡ map (λ (r : RowsView). r.ranges) others → ticks_of rows ≡ ticks_of others → rows ≡ others
rows_same w [] [] [] h k ranges ticks = refl
rows_same w [] (r ∷ rows) others h k ranges ticks = absurd h
rows_same w [] [] (s ∷ others) h k ranges ticks = absurd k
rows_same w (line ∷ lines) [] others h k ranges ticks = absurd h
rows_same w (line ∷ lines) (r ∷ rows) [] h k ranges ticks = absurd k
rows_same w (line ∷ lines) (r ∷ rows) (s ∷ others) h k ranges ticks =
    let first_ranges : r.ranges ≡ s.ranges = cc in
    let first_marks : r.marks ≡ s.marks = h.0.marked ∙ ap (marks_of (encode_utf8_all line)) first_ranges ∙ sym k.0.marked in
    let first_tick : r.tick ≡ s.tick = cc in
    ap₂ ◌∷◌ (row_same r s first_ranges first_marks first_tick) (rows_same w lines rows others h.1 k.1 (cc) (cc))
