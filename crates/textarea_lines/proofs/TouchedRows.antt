-- The lines that a splice touches, by the rows of the cursor before and after it.
use Rattle.std.proofs.Common.{◌≡◌, ℕ, ◌+◌, ◌-◌, ◌≤◌, Bool, true, false, cond, List, length, Option, None, option_map, ap, refl, ◌∙◌, arith}
use Rattle.textarea_text.specs.Place.{Place, end}
use Rattle.textarea_text.specs.Splice.{Splice, applied, place_after, place_before}
use Rattle.textarea_text.specs.Text.{Symbol, lines}
use Rattle.textarea_text.specs.Touched.{breaks_of, new_line_count, replaced_line_count}
use Rattle.textarea_text.proofs.Touching.{end_row}
use Rattle.textarea_lines.specs.TextLayout.{Layout, Origins, TextAndLayout, after_lines_spliced, all_wrapped, applied_to, lines_spliced, origins_spliced, some_wrapped, with_origins}
use Rattle.textarea_lines.specs.Wrappings.{is_same_wrapping, wrapping_for}

-- ---- rows

-- from the row to the symbols' end, or only the row
rows_of : (b : Bool) (place : Place) (symbols : List Symbol) →
    (place.0 ≤ (cond b (end place symbols) place).0) × ((cond b (end place symbols) place).0 - place.0 + 1 ≡ cond b (breaks_of symbols + 1) 1)
rows_of true place symbols = (omega (arith, end_row place symbols), omega (arith, end_row place symbols))
rows_of false place symbols = (omega arith, omega arith)

pub rows_after_splice : (splice : Splice) → (splice.place.0 ≤ (place_after splice).0) × ((place_after splice).0 - splice.place.0 + 1 ≡ new_line_count splice)
rows_after_splice splice = rows_of splice.inserts splice.place splice.symbols

before_if : (b : Bool) (place : Place) (symbols : List Symbol) →
    (place.0 ≤ (place_before (record { place = place; symbols = symbols; inserts = b })).0)
    × ((place_before (record { place = place; symbols = symbols; inserts = b })).0 - place.0 + 1 ≡ cond b 1 (breaks_of symbols + 1))
before_if true place symbols = (omega arith, omega arith)
before_if false place symbols = rows_of true place symbols

pub rows_before_splice : (splice : Splice) → (splice.place.0 ≤ (place_before splice).0) × ((place_before splice).0 - splice.place.0 + 1 ≡ replaced_line_count splice)
rows_before_splice splice = before_if splice.inserts splice.place splice.symbols

-- ---- what doesn't depend on where lines come from

abbrev layout_if : Bool → Layout → ℕ → ℕ → ℕ → ℕ → Layout
layout_if b layout row gone come after = cond b (some_wrapped layout row gone come) (record (all_wrapped layout.settings layout.count after) { origins = layout.origins })

other_origins : (b : Bool) (layout : Layout) (row gone come after : ℕ) (o p : Option Origins) →
    record (layout_if b (record layout { origins = o }) row gone come after) { origins = p } ≡ record (layout_if b layout row gone come after) { origins = p }
other_origins true layout row gone come after o p = refl
other_origins false layout row gone come after o p = refl

-- a splice of lines whose origins are taken out, and put back changed
pub spliced_without :
    (text_layout : TextAndLayout) (splice : Splice) (origins : Option Origins) → origins ≡ option_map (λ (o : Origins). origins_spliced o splice) text_layout.layout.origins
    → with_origins (lines_spliced (with_origins text_layout None) splice) origins ≡ applied_to text_layout splice
spliced_without text_layout splice origins is =
    let n = length (lines text_layout.text) in
    let gone = replaced_line_count splice in
    let come = new_line_count splice in
    let settings = text_layout.layout.settings in
    ap (λ (l : Layout). record { text = applied text_layout.text splice; layout = l })
    (other_origins (is_same_wrapping (wrapping_for settings (n - gone + come)) (wrapping_for settings n)) text_layout.layout splice.place.0 gone come (n - gone + come) None origins
    ∙ ap (λ (o : Option Origins). record (after_lines_spliced text_layout.layout n splice) { origins = o }) is)
