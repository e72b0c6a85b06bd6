-- Positions as indices, lines one below another, and where fragments end.
use Rattle.std.proofs.Common.{◌≡◌, ℕ, zero, suc, ◌+◌, ◌-◌, ◌<◌, ◌≤◌, List, [], ◌∷◌, ◌++◌, length, min, take, drop, get_or, refl, sym, ap, subst, ◌∙◌, arith, String, string_bytes}
use Rattle.textarea_text.proofs.Prelude.{common_steps, append-nil, drop_all, length-append, length-take-le, take_all, take_more, take_at, encodes-chars, IsUtf8-string_bytes, length-le-encodes}
use Rattle.textarea_text.specs.Prelude.{Break, characters, characters_of, following, joined, leading, lines_of, Place, IsPlace, IsPlaceOf, end, index_of, place_of, row_start, size_of}
use Rattle.textarea_text.proofs.Splices.{end-append, end-characters, end-leading, joined-append, lines-joined}
use Rattle.textarea_text.proofs.TextPlaces.{parted_rows, index_parted}
use Rattle.textarea_text.proofs.Befores.{break_occurs}
use Rattle.textarea_text.proofs.StringRows.{occurs_until}

-- ---- a position is at its index

pub record IsAt (rows : List (List ℕ)) (place : Place) (index : ℕ) : Type 0 where
  pub value : place ≡ place_of (joined rows) index
  pub is_place : IsPlaceOf rows place
  pub index_is : index_of (joined rows) place ≡ index
  pub within : index ≤ length (joined rows)

pub is_at : (rows : List (List ℕ)) (place : Place) (index : ℕ) → IsPlaceOf rows place → index_of (joined rows) place ≡ index → IsAt rows place index
is_at rows place index h e =
    let components = parted_rows rows place.0 place.1 h in
    let here : index_of (joined rows) place ≡ length components.front = ap (λ t. index_of t place) components.is ∙ index_parted place components.front components.back components.ends in
    let front : take index (joined rows) ≡ components.front = ap (take index) components.is ∙ take_at components.front components.back index (sym here ∙ e) in
    record {
      value = sym (ap (end (0, 0)) front ∙ components.ends);
      is_place = h;
      index_is = e;
      within = omega (arith, ap length components.is, length-append components.front components.back);
    }

-- the end of the last line is the text's end
pub is_at_end : (rows : List (List ℕ)) (row column : ℕ) → row + 1 ≡ length rows → column ≡ length (get_or rows row []) → IsAt rows (row, column) (length (joined rows))
unfolding parted_rows
is_at_end rows row column last at =
    let h : IsPlaceOf rows (row, column) = (omega arith, omega arith) in
    let components = parted_rows rows row column h in
    let none : components.back ≡ [] =
    ap (λ t. characters t ++ following (drop (row + 1) rows)) (drop_all column (get_or rows row []) (omega arith)) ∙ ap following (drop_all (row + 1) rows (omega arith)) in
    is_at rows (row, column) (length (joined rows)) h
    (ap (λ t. index_of t (row, column)) components.is ∙ index_parted (row, column) components.front components.back components.ends
    ∙ sym (ap length (components.is ∙ ap (λ t. components.front ++ t) none ∙ append-nil components.front)))

-- the next row begins after this row's line and the break
pub row_start-next : (rows : List (List ℕ)) (row : ℕ) → row + 1 < length rows → row_start (joined rows) (row + 1) ≡ row_start (joined rows) row + length (get_or rows row []) + 1
row_start-next rows row within =
    let line = get_or rows row [] in
    let here : IsPlace (joined rows) (row, length line) =
    subst (λ (r : List (List ℕ)). IsPlaceOf r (row, length line)) (sym (lines-joined rows (omega arith))) (omega arith, omega arith) in
    omega (arith, (occurs_until (joined rows) (row, length line) (Break ∷ []) here (break_occurs rows row within)).1)

-- ---- symbols ahead: if the rest ends in the row, and if the row is the last one

pub ahead_inside : (rows : List (List ℕ)) (row column left wanted : ℕ) → row < length rows → column + left ≤ length (get_or rows row []) →
    row_start (joined rows) row + column + left ≡ wanted → IsAt rows (row, column + left) (min wanted (length (joined rows)))
ahead_inside rows row column left wanted within inside e =
    let at = is_at rows (row, column + left) wanted (within, inside) (omega arith) in
    is_at rows (row, column + left) (min wanted (length (joined rows))) (within, inside) (omega (arith, at.within))

pub ahead_last : (rows : List (List ℕ)) (row last column left step wanted : ℕ) → last + 1 ≡ length rows → row ≡ last → column ≤ length (get_or rows row []) →
    step ≡ min left (length (get_or rows last []) - column) → row_start (joined rows) row + column + left ≡ wanted →
    IsAt rows (last, column + step) (min wanted (length (joined rows)))
ahead_last rows row last column left step wanted all same inside stepped e =
    let end_at = (is_at_end rows last (length (get_or rows last [])) all refl).index_is in
    let line = ap (λ n. length (get_or rows n [])) same in
    let begins = ap (row_start (joined rows)) same in
    is_at rows (last, column + step) (min wanted (length (joined rows))) (omega arith, omega arith) (omega arith)

-- ---- where fragments end

pub end_of_one : (place : Place) (line : List ℕ) → end place (joined (line ∷ [])) ≡ (place.0, place.1 + length line)
end_of_one place line = ap (end place) (append-nil (characters line)) ∙ end-characters place.0 place.1 line

end_of_lines : (place : Place) (first : List ℕ) (above : List (List ℕ)) (last : List ℕ) → end place (leading (first ∷ above) ++ characters last) ≡ (place.0 + length (first ∷ above), length last)
end_of_lines place first above last =
    grind (arith, common_steps, end-append, end-characters place.0 place.1 first, end-leading, end-characters)

end_of_rows : (place : Place) (above : List (List ℕ)) (last : List ℕ) → 0 < length above → end place (joined (above ++ last ∷ [])) ≡ (place.0 + length above, length last)
end_of_rows place [] last some = absurd (omega arith)
end_of_rows place (first ∷ above) last some =
    ap (end place) (joined-append (first ∷ above) (last ∷ []) (omega arith) ∙ ap (λ t. leading (first ∷ above) ++ t) (append-nil (characters last)))
    ∙ end_of_lines place first above last

pub end_of_more : (place : Place) (rows : List (List ℕ)) (last : ℕ) → last + 1 ≡ length rows → 0 < last → end place (joined rows) ≡ (place.0 + last, length (get_or rows last []))
end_of_more place rows last all some =
    grind (arith, common_steps, take_all, take_more, end_of_rows, length-take-le)

pub end_of_single : (place : Place) (rows : List (List ℕ)) → length rows ≡ 1 → end place (joined rows) ≡ (place.0, place.1 + length (get_or rows 0 []))
end_of_single place [] one = absurd (omega arith)
end_of_single place (line ∷ []) one = end_of_one place line
end_of_single place (line ∷ next ∷ rest) one = absurd (omega arith)

-- a line of a fragment has at most the fragment's size, less one, in characters
pub length-fragment_line : {Z : Type 0} (fragment_lines : List (String Z)) (i : ℕ) → i < length fragment_lines → length (get_or (lines_of fragment_lines) i []) + 1 ≤ size_of fragment_lines
length-fragment_line [] i within = absurd (omega arith)
length-fragment_line (fragment_line ∷ rest) zero within =
    omega (arith, length-le-encodes (characters_of fragment_line), ap length (encodes-chars (string_bytes fragment_line) (IsUtf8-string_bytes fragment_line)))
length-fragment_line (fragment_line ∷ rest) (suc i) within = omega (arith, length-fragment_line rest i (omega arith))
