-- A change inside one line leaves the line's characters before it, and all other lines.
use Rattle.std.proofs.Common.{◌≡◌, ℕ, suc, ◌+◌, ◌-◌, ◌<◌, inl, inr, List, [], ◌∷◌, length, take, drop, get_or, sym, ap, ◌∙◌, arith, subst, String}
use Rattle.std.proofs.lemmas.Bool.{cases_lt}
use Rattle.std.proofs.lemmas.List.{get_or-append_right, get_or-drop, get_or-take, get_or_append_left, length-take-le}
use Rattle.textarea_util.specs.Replaced.{replaced}
use Rattle.textarea_text.specs.Text.{lines_of}
use Rattle.textarea_text.specs.Splice.{Splice}
use Rattle.textarea_screen_map.specs.LineMarks.{IsSameBefore}
use Rattle.textarea_screen_map.specs.Map.{MapView}
use Rattle.textarea_lines.specs.declared.settings.LayoutSettings.{LayoutSettings}
use Rattle.textarea_lines.proofs.WholeLines.{Inside, inside_line}

-- the line in the row, and the lines in other rows
line_there : (rows new : List (List ℕ)) (row : ℕ) (line : List ℕ) → row < length rows → new ≡ replaced rows row 1 (line ∷ []) → get_or new row [] ≡ line
line_there rows new row line within is =
    let size : length (take row rows) ≡ row = length-take-le row rows (omega (arith, within)) in
    let none : row - row ≡ 0 = omega arith in
    ap (λ t. get_or t row []) is ∙ get_or-append_right (take row rows) (line ∷ drop (row + 1) rows) row row [] size (omega arith)
    ∙ ap (λ n. get_or (line ∷ drop (row + 1) rows) n []) none

line_elsewhere : (rows new : List (List ℕ)) (row : ℕ) (line : List ℕ) (i : ℕ) → row < length rows → new ≡ replaced rows row 1 (line ∷ []) → (i ≡ row → ⊥) → get_or new i [] ≡ get_or rows i []
line_elsewhere rows new row line i within is other =
    let size : length (take row rows) ≡ row = length-take-le row rows (omega (arith, within)) in
    elim (cases_lt i row) [
      | inl less ↦ ap (λ t. get_or t i []) is ∙ get_or_append_left (take row rows) (line ∷ drop (row + 1) rows) [] i (omega (arith, less, size)) ∙ get_or-take row rows i [] less
      | inr most ↦
          elim (cases_lt row i) [
            | inl more ↦
                let after : i - row ≡ suc (i - (row + 1)) = omega (arith, more) in
                let there : row + 1 + (i - (row + 1)) ≡ i = omega (arith, more) in
                ap (λ t. get_or t i []) is ∙ get_or-append_right (take row rows) (line ∷ drop (row + 1) rows) row i [] size most
                ∙ ap (λ n. get_or (line ∷ drop (row + 1) rows) n []) after
                ∙ get_or-drop (row + 1) rows (i - (row + 1)) [] ∙ ap (λ n. get_or rows n []) there
            | inr least ↦ let same : i ≡ row = omega (arith, most, least) in absurd (other same)
          ]
    ]

-- what a change inside one line leaves
pub same_before :
    {Z : Type 0} (settings : LayoutSettings) (old now borrowed_lines : List (String Z)) (size after : ℕ) (map : MapView) (splice : Splice) (row column : ℕ)
    → Inside settings old now borrowed_lines size after map splice row → column ≡ splice.place.1 → IsSameBefore (lines_of old) (lines_of now) row column
same_before settings old now borrowed_lines size after map splice row column h column_is =
    let changed = inside_line settings old now borrowed_lines size after map splice row h in
    let front : IsSameBefore (lines_of old) (lines_of now) row splice.place.1 = record {
      others = λ i other. line_elsewhere (lines_of old) (lines_of now) row changed.line i changed.within changed.new_is other;
      front = ap (take splice.place.1) (line_there (lines_of old) (lines_of now) row changed.line changed.within changed.new_is) ∙ changed.front;
    } in
    subst (λ n. IsSameBefore (lines_of old) (lines_of now) row n) (sym column_is) front
