-- The text between two positions, and its lines.
use Rattle.std.proofs.Common.{◌≡◌, ℕ, ◌+◌, ◌-◌, ◌<◌, ◌≤◌, List, [], ◌∷◌, ◌++◌, length, take, drop, get_or, sym, ap, ◌∙◌, arith, String, string_bytes}
use Rattle.textarea_text.proofs.Prelude.{common_steps, nat_tests, append-nil, append_assoc, drop-append-le, drop-map, drop-take, drop_more, length-append, length-drop, length-take, map-append, take-map}
use Rattle.textarea_text.specs.Prelude.{AllZip, Symbol, characters, characters_of, following, joined, lines_of, text_of, Place, IsPlaceOf, IsUpTo, index_of, symbols_between}
use Rattle.textarea_text.proofs.Copies.{lines_copied}
use Rattle.textarea_text.proofs.Splices.{joined-append}
use Rattle.textarea_text.proofs.TextPlaces.{parted_rows, index_parted}

-- ---- the lines up to a position

abbrev pub lines_until : List (List ℕ) → Place → List (List ℕ)
lines_until rows place = take place.0 rows ++ take place.1 (get_or rows place.0 []) ∷ []

-- the lines without the first one's characters before the column
abbrev pub lines_from_column : ℕ → List (List ℕ) → List (List ℕ)
lines_from_column column [] = []
lines_from_column column (line ∷ rest) = drop column line ∷ rest

length-lines_until : (rows : List (List ℕ)) (place : Place) → place.0 < length rows → length (lines_until rows place) ≡ place.0 + 1
length-lines_until rows place within = grind (arith, common_steps, nat_tests)

-- ---- a position at or before another

place_until : (rows : List (List ℕ)) (from to : Place) → IsPlaceOf rows from → IsPlaceOf rows to → IsUpTo from to → IsPlaceOf (lines_until rows to) from
place_until rows from to h h' up = grind (arith, common_steps, nat_tests)

-- the text, split at two positions
record Between (rows : List (List ℕ)) (from to : Place) : Type 0 where
  index : index_of (joined rows) to ≡ index_of (joined rows) from + length (joined (lines_from_column from.1 (drop from.0 (lines_until rows to))))
  between_is : symbols_between (joined rows) from to ≡ joined (lines_from_column from.1 (drop from.0 (lines_until rows to)))

between-append : (front middle back : List Symbol) (i j : ℕ) → i ≡ length front → j ≡ length (front ++ middle) → take (j - i) (drop i ((front ++ middle) ++ back)) ≡ middle
between-append front middle back i j here there = grind (arith, common_steps, nat_tests)

until_is : (rows : List (List ℕ)) (to : Place) (h : IsPlaceOf rows to) → (parted_rows rows to.0 to.1 h).front ≡ joined (lines_until rows to)
unfolding parted_rows
until_is rows to h =
    grind (arith, common_steps, append-nil, joined-append)

back_is : (rows : List (List ℕ)) (from : Place) (h : IsPlaceOf rows from) → (parted_rows rows from.0 from.1 h).back ≡ joined (lines_from_column from.1 (drop from.0 rows))
unfolding parted_rows
back_is rows from h = ap (λ t. joined (lines_from_column from.1 t)) (sym (drop_more rows from.0 [] h.0))

between : (rows : List (List ℕ)) (from to : Place) → IsPlaceOf rows from → IsPlaceOf rows to → IsUpTo from to → Between rows from to
between rows from to h h' before =
    let until = lines_until rows to in
    let inside = place_until rows from to h h' before in
    let first = parted_rows until from.0 from.1 inside in
    let second = parted_rows rows to.0 to.1 h' in
    let middle = joined (lines_from_column from.1 (drop from.0 until)) in
    let front : second.front ≡ first.front ++ middle = until_is rows to h' ∙ first.is ∙ ap (λ t. first.front ++ t) (back_is until from inside) in
    let whole : joined rows ≡ (first.front ++ middle) ++ second.back = second.is ∙ ap (λ t. t ++ second.back) front in
    let here : index_of (joined rows) from ≡ length first.front =
    ap (λ t. index_of t from) (whole ∙ append_assoc first.front middle second.back) ∙ index_parted from first.front (middle ++ second.back) first.ends in
    let there : index_of (joined rows) to ≡ length (first.front ++ middle) =
    ap (λ t. index_of t to) second.is ∙ index_parted to second.front second.back second.ends ∙ ap length front in
    record {
      index = omega (arith, length-append first.front middle);
      between_is = ap (λ t. take (index_of (joined rows) to - index_of (joined rows) from) (drop (index_of (joined rows) from) t)) whole
          ∙ between-append first.front middle second.back (index_of (joined rows) from) (index_of (joined rows) to) here there;
    }

length-following : (rows : List (List ℕ)) → length rows ≤ length (following rows)
length-following [] = omega arith
length-following (line ∷ rest) = omega (arith, length-following rest, length-append (characters line) (following rest))

-- a position in a lower row has a greater index
index-lower : (rows : List (List ℕ)) (place lower : Place) → IsPlaceOf rows place → IsPlaceOf rows lower → place.0 < lower.0 → index_of (joined rows) place < index_of (joined rows) lower
index-lower rows place lower h h' below =
    let until = lines_until rows lower in
    let components = between rows place lower h h' (omega arith, λ same. omega arith) in
    let inside : place.0 + 1 < length until = omega (arith, length-lines_until rows lower h'.0) in
    omega (
      arith,
      components.index,
      ap (λ t. length (joined (lines_from_column place.1 t))) (drop_more until place.0 [] (omega arith)),
      length-append (characters (drop place.1 (get_or until place.0 []))) (following (drop (place.0 + 1) until)),
      length-following (drop (place.0 + 1) until),
      length-drop (place.0 + 1) until,
    )

pub up_to_from_index : (rows : List (List ℕ)) (from to : Place) → IsPlaceOf rows from → IsPlaceOf rows to → index_of (joined rows) from ≤ index_of (joined rows) to → IsUpTo from to
up_to_from_index rows from to h h' ordered = grind (arith, index-lower rows to from h' h)

-- ---- the lines of a fragment

-- the lines of the text between the positions
abbrev pub lines_between : List (List ℕ) → Place → Place → List (List ℕ)
lines_between rows from to = lines_from_column from.1 (drop from.0 (lines_until rows to))

-- of one row, and of several
pub between_within : (rows : List (List ℕ)) (from to : Place) → to.0 < length rows → from.0 ≡ to.0 → lines_between rows from to ≡ drop from.1 (take to.1 (get_or rows to.0 [])) ∷ []
between_within rows from to within same = grind (arith, common_steps, nat_tests)

pub between_apart : (rows : List (List ℕ)) (from to : Place) → to.0 < length rows → from.0 < to.0 →
    lines_between rows from to ≡ drop from.1 (get_or rows from.0 []) ∷ (take (to.0 - (from.0 + 1)) (drop (from.0 + 1) rows) ++ take to.1 (get_or rows to.0 []) ∷ [])
between_apart rows from to within below =
    let until = lines_until rows to in
    let next = from.0 + 1 in
    let last = take to.1 (get_or rows to.0 []) ∷ [] in
    let first : get_or until from.0 [] ≡ get_or rows from.0 [] = grind (arith, common_steps, nat_tests) in
    let middle : drop next (take to.0 rows) ≡ take (to.0 - next) (drop next rows) = ap (λ t. drop next (take t rows)) (omega arith) ∙ drop-take next (to.0 - next) rows in
    ap (lines_from_column from.1) (drop_more until from.0 [] (omega (arith, length-lines_until rows to within)))
    ∙ ap (λ line. drop from.1 line ∷ drop next until) first
    ∙ ap (λ t. drop from.1 (get_or rows from.0 []) ∷ t) (drop-append-le next (take to.0 rows) last (omega (arith, length-take to.0 rows)) ∙ ap (λ t. t ++ last) middle)

pub between_from_lines : {Z : Type 0} (lines fragment_lines : List (String Z)) (from to : Place) → IsPlaceOf (lines_of lines) from → IsPlaceOf (lines_of lines) to →
    IsUpTo from to → lines_of fragment_lines ≡ lines_between (lines_of lines) from to → text_of fragment_lines ≡ symbols_between (text_of lines) from to
between_from_lines lines fragment_lines from to h h' before e = ap joined e ∙ sym (between (lines_of lines) from to h h' before).between_is

-- the first and the last line are parts of lines, and those between them are copies
pub copied_between : {Z : Type 0} (lines one all new copies : List (String Z)) (from to : Place) (first last : List ℕ) → to.0 < length (lines_of lines) → from.0 < to.0 →
    lines_of one ≡ first ∷ [] → all ≡ one ++ copies → AllZip (λ s t. string_bytes t ≡ string_bytes s) (take (to.0 - (from.0 + 1)) (drop (from.0 + 1) lines)) copies →
    lines_of new ≡ lines_of all ++ last ∷ [] → first ≡ drop from.1 (get_or (lines_of lines) from.0 []) → last ≡ take to.1 (get_or (lines_of lines) to.0 []) →
    lines_of new ≡ lines_between (lines_of lines) from to
copied_between lines one all new copies from to first last within below begins more same ends is_first is_last =
    let middle : lines_of copies ≡ take (to.0 - (from.0 + 1)) (drop (from.0 + 1) (lines_of lines)) = lines_copied (take (to.0 - (from.0 + 1)) (drop (from.0 + 1) lines)) copies same
    ∙ grind (arith, common_steps, take-map characters_of (to.0 - (from.0 + 1)) (drop (from.0 + 1) lines), drop-map characters_of (from.0 + 1) lines) in
    grind (arith, common_steps, between_apart (lines_of lines) from to within below, map-append characters_of one copies, middle)
