-- The rows of all lines before and after a splice that doesn't change how lines are wrapped.
use Rattle.std.proofs.Common.{◌≡◌, ℕ, suc, zero, ◌+◌, ◌<◌, ◌≤◌, List, [], ◌∷◌, length, take, drop, map, ap, refl, sym, subst, ◌∙◌, arith}
use Rattle.std.proofs.lemmas.List.{drop-map, length-map, take-map}
use Rattle.std.specs.List.{AllByRecursion, range_with_len}
use Rattle.textarea_util.specs.Replaced.{replaced}
use Rattle.textarea_text.specs.Splice.{Splice, applied}
use Rattle.textarea_text.specs.Text.{Symbol, lines}
use Rattle.textarea_text.specs.Touched.{new_line_count, replaced_line_count}
use Rattle.textarea_wrap.specs.RowsView.{RowsView}
use Rattle.textarea_screen_map.specs.LineRows.{AreRowsOf, ticks_after, ticks_of}
use Rattle.textarea_screen_map.specs.declared.layout.Wrapping.{Wrapping}
use Rattle.textarea_screen_map.proofs.Layouts.{AreRowsOf-drop, AreRowsOf-take, length-AreRowsOf}
use Rattle.textarea_lines.specs.LineWraps.{KeepsOtherRows, touched_rows}
use Rattle.textarea_lines.proofs.OneList.{rows_same}
use Rattle.textarea_lines.proofs.Splicing.{SplicesLines, drop-replaced, middle-replaced, take-replaced}

-- lines have one list of rows in each map
abbrev pub OneMap : Type 0
OneMap = (wrapping : Wrapping) (lines : List (List ℕ)) (rows others : List RowsView) → AreRowsOf wrapping lines rows → AreRowsOf wrapping lines others → map (λ (r : RowsView). r.ranges) rows ≡ map (λ (r : RowsView). r.ranges) others

abbrev tick_of : RowsView → ℕ
tick_of rows = rows.tick

-- ticks that begin after a number are above it
above_all : (count first size : ℕ) (rows : List RowsView) → count < first → ticks_of rows ≡ range_with_len first size → AllByRecursion (λ (r : RowsView). count < r.tick) rows
above_all count first size [] less e = tt
above_all count first zero (r ∷ rows) less e = absurd cc
above_all count first (suc size) (r ∷ rows) less e =
    let here : r.tick ≡ first = cc in
    let rest : ticks_of rows ≡ range_with_len (first + 1) size = cc in
    (omega arith, above_all count (first + 1) size rows (omega arith) rest)

length-ticks_after : (first size : ℕ) → length (range_with_len first size) ≡ size
length-ticks_after first zero = refl
length-ticks_after first (suc size) = ap suc (length-ticks_after (first + 1) size)

pub keeps_others :
    (one : OneMap) (w : Wrapping) (text : List Symbol) (splice : Splice) (count : ℕ) (before after : List RowsView) → SplicesLines text splice
    → AreRowsOf w (lines text) before → AreRowsOf w (lines (applied text splice)) after
    → ticks_of after ≡ replaced (ticks_of before) splice.place.0 (replaced_line_count splice) (ticks_after count (new_line_count splice)) → KeepsOtherRows count splice before after
keeps_others one w text splice count before after s h k ticks =
    let row = splice.place.0 in
    let removed_lines = replaced_line_count splice in
    let coming = new_line_count splice in
    let old = lines text in
    let now : AreRowsOf w (replaced old row removed_lines s.new) after = subst (λ (l : List (List ℕ)). AreRowsOf w l after) s.lines_are k in
    let within : row ≤ length old = omega (arith, s.within) in
    let as_many : length (ticks_of before) ≡ length old = length-map before tick_of ∙ length-AreRowsOf w old before h in
    let first : row ≤ length (ticks_of before) = omega (arith, as_many, within) in
    let numbers : length (ticks_after count coming) ≡ coming = length-ticks_after (count + 1) coming in
    let above : AreRowsOf w (take row old) (take row after) =
    subst (λ (l : List (List ℕ)). AreRowsOf w l (take row after)) (take-replaced old s.new row removed_lines within) (AreRowsOf-take w row (replaced old row removed_lines s.new) after now) in
    let below : AreRowsOf w (drop (row + removed_lines) old) (drop (row + coming) after) =
    subst (λ (l : List (List ℕ)). AreRowsOf w l (drop (row + coming) after)) (drop-replaced old s.new row removed_lines coming within s.coming) (AreRowsOf-drop w (row + coming) (replaced old row removed_lines s.new) after now) in
    let middle : ticks_of (touched_rows splice after) ≡ ticks_after count coming =
    sym (take-map tick_of coming (drop row after)) ∙ ap (take coming) (sym (drop-map tick_of row after) ∙ ap (drop row) ticks) ∙ middle-replaced (ticks_of before) (ticks_after count coming) row removed_lines coming first numbers in
    record {
      above = rows_same w (take row old) (take row after) (take row before) above (AreRowsOf-take w row old before h) (one w (take row old) (take row after) (take row before) above (AreRowsOf-take w row old before h))
          (sym (take-map tick_of row after) ∙ ap (take row) ticks ∙ take-replaced (ticks_of before) (ticks_after count coming) row removed_lines first ∙ take-map tick_of row before);
      below =
          rows_same w (drop (row + removed_lines) old) (drop (row + coming) after) (drop (row + removed_lines) before) below
          (AreRowsOf-drop w (row + removed_lines) old before h)
          (one w (drop (row + removed_lines) old) (drop (row + coming) after) (drop (row + removed_lines) before) below (AreRowsOf-drop w (row + removed_lines) old before h))
          (sym (drop-map tick_of (row + coming) after) ∙ ap (drop (row + coming)) ticks ∙ drop-replaced (ticks_of before) (ticks_after count coming) row removed_lines coming first numbers ∙ drop-map tick_of (row + removed_lines) before);
      touched = middle;
      newer = above_all count (count + 1) coming (touched_rows splice after) (omega arith) middle;
    }
