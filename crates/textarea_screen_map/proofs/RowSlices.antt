-- The characters of a line before a row, in it and after it.
use Rattle.std.proofs.Common.{◌≡◌, ℕ, ◌+◌, ◌-◌, ◌<◌, ◌≤◌, inl, inr, true, List, ◌++◌, length, take, drop, sym, ap, refl, ◌∙◌, arith, encode_utf8_all}
use Rattle.std.proofs.lemmas.List.{append_assoc, drop-drop, drop_at, length-append, length-drop, length-take-le, take-append-drop, take-append-le, take_at}
use Rattle.std.proofs.Math.Seq.{take-add}
use Rattle.std.proofs.lemmas.Bool.{cases_lt}
use Rattle.std.proofs.lemmas.Str.{IsUtf8-between, IsUtf8-drop, IsUtf8-take, encodes-append, encodes-chars, encodes_same, length-le-encodes}
use Rattle.std.specs.Str.{IsUtf8, all_scalars, chars}
use Rattle.textarea_text.proofs.Columns.{chars_from_bytes, encodes_split, offset_in, offsets_ordered}
use Rattle.textarea_wrap.specs.WrapResult.{IsRowRange}

pub record RowSlice (line : List ℕ) (range : ℕ × ℕ) : Type 0 where
  pub front : List ℕ
  pub text : List ℕ
  pub rest : List ℕ
  pub whole : line ≡ front ++ (text ++ rest)
  pub begins : offset_in line (length front) ≡ range.0
  pub ends : offset_in line (length front + length text) ≡ range.1
  pub begins_bytes : length (encode_utf8_all front) ≡ range.0
  pub text_bytes : range.0 + length (encode_utf8_all text) ≡ range.1
  pub front_is : front ≡ chars (take range.0 (encode_utf8_all line))
  pub text_is : text ≡ chars (take (range.1 - range.0) (drop range.0 (encode_utf8_all line)))

pub row_slice_of : (line : List ℕ) (range : ℕ × ℕ) → all_scalars line ≡ true → IsRowRange (encode_utf8_all line) range → RowSlice line range
row_slice_of line range scalar h =
    let bytes = encode_utf8_all line in
    let valid : IsUtf8 bytes = (line, (scalar, refl)) in
    let front = chars (take range.0 bytes) in
    let text = chars (take (range.1 - range.0) (drop range.0 bytes)) in
    let rest = chars (drop range.1 bytes) in
    let front_bytes : encode_utf8_all front ≡ take range.0 bytes = encodes-chars (take range.0 bytes) (IsUtf8-take bytes range.0 valid h.start) in
    let text_bytes : encode_utf8_all text ≡ take (range.1 - range.0) (drop range.0 bytes) =
    encodes-chars (take (range.1 - range.0) (drop range.0 bytes)) (IsUtf8-between bytes range.0 range.1 valid h.ordered h.start h.end) in
    let rest_bytes : encode_utf8_all rest ≡ drop range.1 bytes = encodes-chars (drop range.1 bytes) (IsUtf8-drop bytes range.1 valid h.end) in
    let seam : drop range.1 bytes ≡ drop (range.1 - range.0) (drop range.0 bytes) =
    ap (λ n. drop n bytes) (omega (arith, h.ordered)) ∙ sym (drop-drop (range.1 - range.0) range.0 bytes) in
    let joined : encode_utf8_all (front ++ (text ++ rest)) ≡ bytes =
    cc (encodes-append front (text ++ rest), encodes-append text rest, front_bytes, text_bytes, rest_bytes, seam, take-append-drop (range.1 - range.0) (drop range.0 bytes), take-append-drop range.0 bytes) in
    let whole : line ≡ front ++ (text ++ rest) = encodes_same line (front ++ (text ++ rest)) (sym joined) in
    let start_inside : range.0 ≤ length bytes = h.start.0 in
    let end_inside : range.1 ≤ length bytes = h.end.0 in
    let size : length (encode_utf8_all front) ≡ range.0 = ap length front_bytes ∙ length-take-le range.0 bytes start_inside in
    let more : length (encode_utf8_all text) ≡ range.1 - range.0 =
    ap length text_bytes ∙ length-take-le (range.1 - range.0) (drop range.0 bytes) (omega (arith, end_inside, length-drop range.0 bytes)) in
    record {
      front = front;
      text = text;
      rest = rest;
      whole = whole;
      begins = ap (λ t. length (encode_utf8_all (take (length front) t))) whole
          ∙ ap (λ t. length (encode_utf8_all t)) (take_at front (text ++ rest) (length front) refl) ∙ size;
      ends = ap (λ t. length (encode_utf8_all (take (length front + length text) t))) (whole ∙ sym (append_assoc front text rest))
          ∙ ap (λ t. length (encode_utf8_all t)) (take_at (front ++ text) rest (length front + length text) (length-append front text))
          ∙ ap length (encodes-append front text) ∙ length-append (encode_utf8_all front) (encode_utf8_all text) ∙ omega (arith, size, more, h.ordered);
      begins_bytes = size;
      text_bytes = omega (arith, more, h.ordered);
      front_is = refl;
      text_is = refl;
    }

-- ---- columns and offsets

pub offset_less : (cs : List ℕ) (column later : ℕ) → column < later → later ≤ length cs → offset_in cs column < offset_in cs later
offset_less cs column later ordered within =
    let front = take column cs in
    let more = take (later - column) (drop column cs) in
    let size : column + (later - column) ≡ later = omega arith in
    let joined : take later cs ≡ front ++ more = ap (λ n. take n cs) (sym size) ∙ take-add column (later - column) cs in
    omega (
      arith,
      ap (λ t. length (encode_utf8_all t)) joined,
      ap length (encodes-append front more),
      length-append (encode_utf8_all front) (encode_utf8_all more),
      length-le-encodes more,
      length-take-le (later - column) (drop column cs) (omega (arith, length-drop column cs)),
    )

pub row_within : (line : List ℕ) (range : ℕ × ℕ) (p : RowSlice line range) → length p.front + length p.text ≤ length line
row_within line range p =
    omega (arith, ap length p.whole, length-append p.front (p.text ++ p.rest), length-append p.text p.rest)

-- an offset at or after the row's first byte is that of a column at or after the row's first one
pub column_from : (line : List ℕ) (range : ℕ × ℕ) (p : RowSlice line range) (column : ℕ) → column ≤ length line → range.0 ≤ offset_in line column → length p.front ≤ column
column_from line range p column within from =
    elim (cases_lt column (length p.front)) [
      | inl less ↦ absurd (omega (arith, offset_less line column (length p.front) less (omega (arith, row_within line range p)), p.begins, from))
      | inr more ↦ more
    ]

pub column_to : (line : List ℕ) (range : ℕ × ℕ) (p : RowSlice line range) (column : ℕ) → column ≤ length line → offset_in line column ≤ range.1 → column ≤ length p.front + length p.text
column_to line range p column within to =
    elim (cases_lt (length p.front + length p.text) column) [
      | inl less ↦ absurd (omega (arith, offset_less line (length p.front + length p.text) column less within, p.ends, to))
      | inr more ↦ more
    ]

pub column_before : (line : List ℕ) (range : ℕ × ℕ) (p : RowSlice line range) (column : ℕ) → offset_in line column < range.1 → column < length p.front + length p.text
column_before line range p column before =
    elim (cases_lt column (length p.front + length p.text)) [
      | inl less ↦ less
      | inr more ↦ absurd (omega (arith, offsets_ordered line (length p.front + length p.text) column more, p.ends, before))
    ]

-- the text from the row's first byte to a column's offset is the row's characters before it
pub characters_between :
    (line : List ℕ) (range : ℕ × ℕ) (p : RowSlice line range) (column : ℕ) (slice : List ℕ) → length p.front ≤ column
    → column ≤ length p.front + length p.text → IsUtf8 slice → slice ≡ take (offset_in line column - range.0) (drop range.0 (encode_utf8_all line))
    → chars slice ≡ take (column - length p.front) p.text
characters_between line range p column slice from to valid is =
    let index = column - length p.front in
    let segment = take index p.text in
    let left = encode_utf8_all (drop index p.text) ++ encode_utf8_all p.rest in
    let bytes : encode_utf8_all line ≡ encode_utf8_all p.front ++ (encode_utf8_all p.text ++ encode_utf8_all p.rest) =
    cc (p.whole, encodes-append p.front (p.text ++ p.rest), encodes-append p.text p.rest) in
    let after : drop range.0 (encode_utf8_all line) ≡ encode_utf8_all segment ++ left =
    cc (
      bytes,
      drop_at (encode_utf8_all p.front) (encode_utf8_all p.text ++ encode_utf8_all p.rest) range.0 p.begins_bytes,
      encodes_split p.text index,
      append_assoc (encode_utf8_all segment) (encode_utf8_all (drop index p.text)) (encode_utf8_all p.rest),
    )
    in
    let before : take column line ≡ p.front ++ segment =
    let where_is : column ≡ length p.front + index = omega arith in
    cc (where_is, take-add (length p.front) index line, p.whole, take_at p.front (p.text ++ p.rest) (length p.front) refl, drop_at p.front (p.text ++ p.rest) (length p.front) refl, take-append-le index p.text p.rest (omega arith)) in
    let size : offset_in line column - range.0 ≡ length (encode_utf8_all segment) =
    omega (arith, ap (λ t. length (encode_utf8_all t)) before, ap length (encodes-append p.front segment), length-append (encode_utf8_all p.front) (encode_utf8_all segment), p.begins_bytes) in
    chars_from_bytes slice segment valid
    (is ∙ ap (λ n. take n (drop range.0 (encode_utf8_all line))) size ∙ ap (take (length (encode_utf8_all segment))) after
    ∙ take_at (encode_utf8_all segment) left (length (encode_utf8_all segment)) refl)
