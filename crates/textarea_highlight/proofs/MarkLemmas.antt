-- Known positions of a row: their offsets and columns, and the characters after them.
use Rattle.std.proofs.Common.{◌≡◌, ℕ, ◌+◌, ◌<◌, max, List, ◌++◌, length, take, drop, refl, sym, ap, subst, ◌∙◌, arith, encode_utf8_all, IsUtf8, IsCharBoundary}
use Rattle.std.specs.Str.{chars}
use Rattle.std.proofs.lemmas.List.{length-append, length-drop}
use Rattle.std.proofs.lemmas.Str.{encodes-append, IsUtf8-drop, IsUtf8-take}
use Rattle.std.proofs.Math.Seq.{take-add}
use Rattle.textarea_text.proofs.Columns.{IsCharBoundary-column, chars-drop, chars-take}
use Rattle.textarea_wrap.specs.Columns.{end_column}
use Rattle.textarea_highlight.specs.Highlights.{byte_of}
use Rattle.textarea_highlight.specs.Marks.{IsOffsetMark, IsRowMark}
use Rattle.textarea_highlight.specs.Seams.{IsColumnAt}
use Rattle.textarea_highlight.specs.declared.highlight.marks.RowMark.{RowMark}

abbrev pub row_start : RowMark
row_start = record { characters = 0; offset = 0; column = 0 }

pub start_is_offset : (row : List ℕ) → IsOffsetMark row row_start
start_is_offset row = record { within = omega arith; offset_is = refl }

pub start_is_mark : (row : List ℕ) (tab_len : ℕ) → IsRowMark row tab_len row_start
start_is_mark row tab_len = record { at = start_is_offset row; column_is = refl; near = omega arith }

pub mark_boundary : (row : List ℕ) (mark : RowMark) → IsUtf8 row → IsOffsetMark row mark → IsCharBoundary row mark.offset
mark_boundary row mark utf8 is = subst (IsCharBoundary row) (sym is.offset_is) (IsCharBoundary-column row mark.characters utf8)

tabs_as_they_are : (tab_len : ℕ) → 0 < tab_len → max tab_len 1 ≡ tab_len
tabs_as_they_are tab_len tabs = omega (arith, tabs)

-- the mark's offset is at the mark's column
pub mark_column : (row : List ℕ) (tab_len : ℕ) (mark : RowMark) → IsUtf8 row → 0 < tab_len → IsRowMark row tab_len mark →
    IsColumnAt row tab_len (record { offset = mark.offset; column = mark.column })
mark_column row tab_len mark utf8 tabs is =
    let boundary = mark_boundary row mark utf8 is.at in
    let front : chars (take mark.offset row) ≡ take mark.characters (chars row) =
    chars-take row (take mark.offset row) mark.characters utf8 (IsUtf8-take row mark.offset utf8 boundary) (ap (λ n. take n row) is.at.offset_is) in
    record {
      boundary = boundary;
      column = is.column_is ∙ ap (λ n. end_column n 0 (take mark.characters (chars row))) (tabs_as_they_are tab_len tabs) ∙ sym (ap (end_column tab_len 0) front);
      near = is.near;
    }

-- ---- the characters after a mark

module _ (row rest : List ℕ) (mark : RowMark) (utf8 : IsUtf8 row) (is : IsOffsetMark row mark) (rest_is : rest ≡ drop mark.offset row) where
  pub rest_utf8 : IsUtf8 rest
  rest_utf8 = subst IsUtf8 (sym rest_is) (IsUtf8-drop row mark.offset utf8 (mark_boundary row mark utf8 is))

  rest_chars : chars rest ≡ drop mark.characters (chars row)
  rest_chars = chars-drop row rest mark.characters utf8 rest_utf8 (rest_is ∙ ap (λ n. drop n row) is.offset_is)

  -- a column after the mark is as many bytes after it
  pub byte_after : (count : ℕ) → mark.offset + length (encode_utf8_all (take count (chars rest))) ≡ byte_of row (mark.characters + count)
  byte_after count =
      let front = encode_utf8_all (take mark.characters (chars row)) in
      let more = encode_utf8_all (take count (drop mark.characters (chars row))) in
      let split : encode_utf8_all (take (mark.characters + count) (chars row)) ≡ encode_utf8_all (take mark.characters (chars row)) ++ encode_utf8_all (take count (drop mark.characters (chars row))) =
      ap encode_utf8_all (take-add mark.characters count (chars row)) ∙ encodes-append (take mark.characters (chars row)) (take count (drop mark.characters (chars row))) in
      omega (arith, is.offset_is, ap (λ cs. length (encode_utf8_all (take count cs))) rest_chars, ap length split, length-append front more)

  -- there are as many characters in all
  pub characters_after : length (chars rest) + mark.characters ≡ length (chars row)
  characters_after = omega (arith, is.within, ap length rest_chars, length-drop mark.characters (chars row))
