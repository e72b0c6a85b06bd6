-- The symbol before a position of lines.
use Rattle.std.proofs.Common.{◌≡◌, ℕ, ◌+◌, ◌-◌, ◌<◌, ◌≤◌, List, [], ◌∷◌, ◌++◌, length, take, drop, sym, ap, refl, ◌∙◌, arith, get_or, subst, String, encode_utf8_all, encode_utf8, Option, Some, None, MatchOption}
use Rattle.textarea_text.proofs.Prelude.{common_steps, append-nil, length-take-le, length-map, drop_more, take_at, get_or-take, get_or_at}
use Rattle.textarea_text.proofs.Prelude.{take-append-drop, drop-drop, cons_from_encodes, chars-append, IsUtf8-encode, IsUtf8-take, IsCharBoundary-at_seam}
use Rattle.textarea_text.specs.Prelude.{IsSome, IsScalar, chars, IsUtf8, Character, Break, characters, characters_of, joined, lines_of, text_of, Place, IsPlace, IsPlaceOf, IsSymbolBefore, OccursAt}
use Rattle.textarea_text.proofs.Columns.{offset_in, take_offset, length-offset, chars-take, chars_from_bytes}
use Rattle.textarea_text.proofs.Splices.{lines-joined}
use Rattle.textarea_text.proofs.RowEdits.{rows_around, wrap_line, rows_stand}
use Rattle.textarea_text.proofs.StringRows.{line_at}
use Rattle.textarea_text.proofs.TextPlaces.{is_before}

-- a position of lines is one of their text
pub text_place : {Z : Type 0} (items : List (String Z)) (place : Place) → IsPlaceOf (lines_of items) place → IsPlace (text_of items) place
text_place items place h =
    subst (λ (rows : List (List ℕ)). IsPlaceOf rows place) (sym (lines-joined (lines_of items) (omega (arith, h.0)))) h

pub character_occurs : (rows : List (List ℕ)) (row column c : ℕ) → row < length rows → column ≤ length (get_or rows row []) →
    drop column (get_or rows row []) ≡ c ∷ drop (column + 1) (get_or rows row []) → OccursAt (joined rows) (row, column) (Character c ∷ [])
character_occurs rows row column c within inside found =
    let here = get_or rows row [] in
    let was : joined (here ∷ []) ≡ characters (take column here) ++ (Character c ∷ characters (drop (column + 1) here)) =
    wrap_line here column ∙ ap (λ t. characters (take column here) ++ characters t) found in
    rows_stand rows (here ∷ []) (drop (row + 1) rows) (take column here) row column (Character c ∷ []) (characters (drop (column + 1) here)) within (rows_around rows row within) (length-take-le column here inside) (omega arith) was

rows_around_two : (rows : List (List ℕ)) (row : ℕ) → row + 1 < length rows → rows ≡ take row rows ++ ((get_or rows row [] ∷ get_or rows (row + 1) [] ∷ []) ++ drop (row + 2) rows)
rows_around_two rows row within =
    grind (arith, common_steps, take-append-drop row rows, drop_more)

pub break_occurs : (rows : List (List ℕ)) (row : ℕ) → row + 1 < length rows → OccursAt (joined rows) (row, length (get_or rows row [])) (Break ∷ [])
break_occurs rows row within =
    let here = get_or rows row [] in
    let next = get_or rows (row + 1) [] in
    let was : joined (here ∷ next ∷ []) ≡ characters here ++ (Break ∷ characters next) = ap (λ t. characters here ++ (Break ∷ t)) (append-nil (characters next)) in
    rows_stand rows (here ∷ next ∷ []) (drop (row + 2) rows) here row (length here) (Break ∷ []) (characters next) (omega arith) (rows_around_two rows row within) refl (omega arith) was

pub pair_is : (place : Place) (row column : ℕ) → place.0 ≡ row → place.1 ≡ column → place ≡ (row, column)
pair_is place row column e e' = ap (λ (n : ℕ). (n, place.1)) e ∙ ap (λ (n : ℕ). (row, n)) e'

-- before a position inside a line there is a character
pub character_before : {Z : Type 0} (items : List (String Z)) (place : Place) (line : String Z) (c : ℕ) → IsPlaceOf (lines_of items) place → 0 < place.1 →
    line ≡ get_or items place.0 line → drop (place.1 - 1) (characters_of line) ≡ c ∷ drop (place.1 - 1 + 1) (characters_of line) →
    IsSymbolBefore (text_of items) place (place.0, place.1 - 1) (Character c)
character_before items place line c h some read found =
    let rows = lines_of items in
    let here : get_or rows place.0 [] ≡ characters_of line = line_at items place.0 line (omega (arith, h.0, length-map items characters_of)) read in
    let start : IsPlaceOf rows (place.0, place.1 - 1) = (h.0, omega (arith, h.1)) in
    is_before (text_of items) (place.0, place.1 - 1) (Character c) place (text_place items (place.0, place.1 - 1) start)
    (character_occurs rows place.0 (place.1 - 1) c h.0 start.1 (subst (λ (l : List ℕ). drop (place.1 - 1) l ≡ c ∷ drop (place.1 - 1 + 1) l) (sym here) found))
    (pair_is place place.0 (place.1 - 1 + 1) refl (omega arith))

-- before a position at the start of a line below another there is a break
pub break_before : {Z : Type 0} (items : List (String Z)) (place : Place) (line : String Z) (column : ℕ) → IsPlaceOf (lines_of items) place → place.1 ≡ 0 → 0 < place.0 →
    line ≡ get_or items (place.0 - 1) line → column ≡ length (characters_of line) → IsSymbolBefore (text_of items) place (place.0 - 1, column) Break
break_before items place line column h none some read e =
    let rows = lines_of items in
    let here : get_or rows (place.0 - 1) [] ≡ characters_of line = line_at items (place.0 - 1) line (omega (arith, h.0, length-map items characters_of)) read in
    let at : length (get_or rows (place.0 - 1) []) ≡ column = ap length here ∙ sym e in
    let occurs : OccursAt (text_of items) (place.0 - 1, column) (Break ∷ []) =
    subst (λ (n : ℕ). OccursAt (text_of items) (place.0 - 1, n) (Break ∷ [])) at (break_occurs rows (place.0 - 1) (omega (arith, h.0))) in
    is_before (text_of items) (place.0 - 1, column) Break place (text_place items (place.0 - 1, column) (omega (arith, h.0), omega (arith, at))) occurs
    (pair_is place (place.0 - 1 + 1) 0 (omega arith) none)

-- a call of `next` that returns a character
pub next_is : (Same : Type 0) (cs was rest : List ℕ) (column c : ℕ) (found : Option ℕ) → was ≡ encode_utf8_all (drop column cs) →
    MatchOption found ((length was ≡ 0) × Same) (λ d. was ≡ encode_utf8 d ++ rest) → found ≡ Some c → drop column cs ≡ c ∷ drop (column + 1) cs
next_is Same cs was rest column c found e h is =
    grind (arith, common_steps, cons_from_encodes, drop-drop 1 column cs)

-- ---- the character that ends at a column

pub back_some : (Same : Type 0) (was rest : List ℕ) (found : Option ℕ) → 0 < length was → MatchOption found ((length was ≡ 0) × Same) (λ c. was ≡ rest ++ encode_utf8 c) → IsSome found
back_some Same was rest None some h = absurd (omega (arith, h.0))
back_some Same was rest (Some c) some h = refl

pub back_is : (Same : Type 0) (was rest : List ℕ) (found : Option ℕ) (c : ℕ) → found ≡ Some c → MatchOption found ((length was ≡ 0) × Same) (λ d. was ≡ rest ++ encode_utf8 d) → was ≡ rest ++ encode_utf8 c
back_is Same was rest found c is h = subst (λ (o : Option ℕ). MatchOption o ((length was ≡ 0) × Same) (λ d. was ≡ rest ++ encode_utf8 d)) is h

-- before a column other than the first there are bytes
pub some_before : (bs before : List ℕ) (column : ℕ) → IsUtf8 bs → 0 < column → column ≤ length (chars bs) → before ≡ take (offset_in (chars bs) column) bs → 0 < length before
some_before bs before column text some within e =
    omega (arith, ap length (e ∙ take_offset bs column text), length-offset bs column text within)

pub last_before : (bs before rest : List ℕ) (column c : ℕ) → IsUtf8 bs → IsUtf8 before → IsScalar c → 0 < column → column ≤ length (chars bs) →
    before ≡ take (offset_in (chars bs) column) bs → before ≡ rest ++ encode_utf8 c → drop (column - 1) (chars bs) ≡ c ∷ drop (column - 1 + 1) (chars bs)
last_before bs before rest column c text text' scalar some within is e =
    let cs = chars bs in
    let one = IsUtf8-encode c scalar in
    let seam = IsCharBoundary-at_seam before rest (encode_utf8 c) e one in
    let text'' : IsUtf8 rest = subst IsUtf8 (ap (take (length rest)) e ∙ take_at rest (encode_utf8 c) (length rest) refl) (IsUtf8-take before (length rest) text' seam) in
    let one_is = chars_from_bytes (encode_utf8 c) (c ∷ []) one (sym (append-nil (encode_utf8 c))) in
    let ends = get_or-take column cs (column - 1) 0 (omega arith) in
    let next = drop_more cs (column - 1) 0 (omega arith) in
    grind (arith, common_steps, chars-take bs before column text text' is, chars-append rest (encode_utf8 c) text'', get_or_at (chars rest) c)
