-- The byte offset of the position where symbols end.
use Rattle.std.proofs.Common.{◌≡◌, ℕ, zero, suc, ◌+◌, ◌<◌, ◌^◌, List, [], ◌∷◌, ◌++◌, length, take, drop, refl, ap, ◌∙◌, arith, lit<, get_or, encode_utf8_all, String, string_bytes}
use Rattle.std.proofs.Math.Seq.{take-add}
use Rattle.std.proofs.lemmas.List.{length-append, take_at}
use Rattle.std.proofs.lemmas.Str.{encodes-chars, IsUtf8-string_bytes}
use Rattle.textarea_history.specs.Prelude.{offset_at, Place, IsPlaceOf, OccursAt, index_of, weight, Symbol, characters, joined, leading, lines_of}
use Rattle.textarea_text.proofs.Columns.{encodes_split}
use Rattle.textarea_text.proofs.TextPlaces.{index_parted, parted_rows}
use Rattle.textarea_text.proofs.Sizes.{weight-append, weight-characters}

-- the weight of the text before a position
weight_before : (rows : List (List ℕ)) (place : Place) → IsPlaceOf rows place → weight (take (index_of (joined rows) place) (joined rows)) ≡ weight (leading (take place.0 rows)) + offset_at rows place
unfolding parted_rows
weight_before rows place h =
    let components = parted_rows rows place.0 place.1 h in
    let line = take place.1 (get_or rows place.0 []) in
    let here : index_of (joined rows) place ≡ length components.front =
    ap (λ t. index_of t place) components.is ∙ index_parted place components.front components.back components.ends in
    let front : take (index_of (joined rows) place) (joined rows) ≡ components.front =
    ap (λ n. take n (joined rows)) here ∙ ap (take (length components.front)) components.is ∙ take_at components.front components.back (length components.front) refl in
    ap weight front ∙ weight-append (leading (take place.0 rows)) (characters line) ∙ ap (λ n. weight (leading (take place.0 rows)) + n) (weight-characters line)

-- the byte offset of the end of symbols that end in their row
pub offset_after : (rows : List (List ℕ)) (place to : Place) (symbols : List Symbol) → IsPlaceOf rows place → IsPlaceOf rows to → place.0 ≡ to.0 → OccursAt (joined rows) place symbols →
    index_of (joined rows) to ≡ index_of (joined rows) place + length symbols → offset_at rows to ≡ offset_at rows place + weight symbols
offset_after rows place to symbols h h' same occurs ends =
    let text = joined rows in
    let at = index_of text place in
    let until : take (index_of text to) text ≡ take at text ++ symbols =
    ap (λ n. take n text) ends ∙ take-add at (length symbols) text ∙ ap (λ t. take at text ++ t) occurs in
    let leads : weight (leading (take place.0 rows)) ≡ weight (leading (take to.0 rows)) = ap (λ n. weight (leading (take n rows))) same in
    omega (arith, ap weight until, weight-append (take at text) symbols, weight_before rows place h, weight_before rows to h', leads)

-- ---- a line of `String`s has less than 2^63 bytes

line_bound : {Z : Type 0} (items : List (String Z)) (row : ℕ) → length (encode_utf8_all (get_or (lines_of items) row [])) < 2 ^ 63
line_bound [] row = lit< tt
line_bound (line ∷ items) zero =
    omega (arith, ap length (encodes-chars (string_bytes line) (IsUtf8-string_bytes line)), line.bytes.ok.0, line.bytes.small)
line_bound (line ∷ items) (suc row) = line_bound items row

pub offset_bound : {Z : Type 0} (items : List (String Z)) (place : Place) → offset_at (lines_of items) place < 2 ^ 63
offset_bound items place =
    let line = get_or (lines_of items) place.0 [] in
    omega (arith, line_bound items place.0, ap length (encodes_split line place.1), length-append (encode_utf8_all (take place.1 line)) (encode_utf8_all (drop place.1 line)))
