-- Marks of a line are columns of it with their byte offsets.
use Rattle.std.proofs.Common.{◌≡◌, ℕ, zero, suc, ◌+◌, ◌*◌, ◌/◌, ◌<◌, ◌≤◌, true, List, [], ◌++◌, String, string_bytes, length, map, take, drop, get_or, sym, ap, refl, subst, ◌∙◌, arith, encode_utf8_all}
use Rattle.std.proofs.Math.ListN.{get_or-map}
use Rattle.std.proofs.lemmas.List.{length-append, length-map, length-take-le, take-append-drop, take-take}
use Rattle.std.proofs.lemmas.Str.{IsCharBoundary-from_take, IsUtf8-take, chars-append}
use Rattle.std.specs.List.{AllByRecursion, range_with_len}
use Rattle.std.specs.Str.{IsCharBoundary, IsUtf8, all_scalars, chars}
use Rattle.textarea_util.specs.Limit.{size_limit}
use Rattle.textarea_text.specs.Text.{characters_of, lines_of}
use Rattle.textarea_text.proofs.Columns.{IsCharBoundary-column, chars_from_bytes, offset_in, take_offset}
use Rattle.textarea_text.proofs.StringRows.{line_at}
use Rattle.textarea_wrap.specs.Marks.{mark_at, marks_of, position_of_row}
use Rattle.textarea_wrap.specs.RowsView.{RowsView}
use Rattle.textarea_wrap.specs.WrapResult.{IsRowRange}
use Rattle.textarea_blocks.specs.Sums.{marks_at}
use Rattle.textarea_screen_map.specs.KnownColumns.{AreColumnsAtBytes, IsColumnAtByte}
use Rattle.textarea_screen_map.specs.LineRows.{AreRowsOf}
use Rattle.textarea_screen_map.specs.declared.layout.Wrapping.{Wrapping}
use Rattle.textarea_screen_map.proofs.Holding.{bytes_of_line, rows_at}
use Rattle.textarea_screen_map.proofs.Layouts.{length-AreRowsOf}
use Rattle.textarea_screen_map.proofs.RowSlices.{row_slice_of, row_within}
use Rattle.textarea_util.proofs.Alls.{all_at}

-- ---- marks of a line

row_known : (line : List ℕ) (range : ℕ × ℕ) → all_scalars line ≡ true → IsRowRange (encode_utf8_all line) range → IsColumnAtByte line (position_of_row (encode_utf8_all line) range)
row_known line range scalar h =
    let p = row_slice_of line range scalar h in
    let first : length (chars (take range.0 (encode_utf8_all line))) ≡ length p.front = ap length (sym p.front_is) in
    (omega (arith, first, row_within line range p), sym p.begins ∙ ap (offset_in line) (sym first))

mapped_all : {X : Type 0} (P : X → Type 0) (f : ℕ → X) (first size : ℕ) → ((k : ℕ) → k < first + size → P (f k)) → AllByRecursion P (map f (range_with_len first size))
mapped_all P f first zero h = tt
mapped_all P f first (suc size) h = (h first (omega arith), mapped_all P f (first + 1) size (λ k less. h k (omega (arith, less))))

marks_known : (line : List ℕ) (ranges : List (ℕ × ℕ)) → all_scalars line ≡ true → AllByRecursion (IsRowRange (encode_utf8_all line)) ranges → AreColumnsAtBytes line (marks_of (encode_utf8_all line) ranges)
unfolding marks_of
marks_known line ranges scalar placed =
    mapped_all (IsColumnAtByte line) (mark_at (encode_utf8_all line) ranges) 0 (length ranges / 8)
    (λ k less. row_known line (get_or ranges (8 * k + 7) (0, 0)) scalar (all_at (IsRowRange (encode_utf8_all line)) ranges (8 * k + 7) (0, 0) placed (omega (arith, less))))

pub marks_right : (w : Wrapping) (lines : List (List ℕ)) (rows : List RowsView) (i : ℕ) → AreRowsOf w lines rows → i < length lines → AreColumnsAtBytes (get_or lines i []) (marks_at rows i)
marks_right w lines rows i h within =
    let none : RowsView = record { ranges = []; marks = []; tick = 0 } in
    let line = get_or lines i [] in
    let here = rows_at w lines rows i h within in
    rw (get_or-map (λ (r : RowsView). r.marks) rows i none)
    (subst (AreColumnsAtBytes line) (sym here.marked) (marks_known line (get_or rows i none).ranges here.characters here.wrapped.placed))

-- the text before a row, with the marks of its line
pub front_marked :
    (w : Wrapping) (lines : List (List ℕ)) (rows : List RowsView) (i : ℕ) (front : List ℕ) (marks : List (ℕ × ℕ)) → AreRowsOf w lines rows
    → i < length rows → marks ≡ marks_at rows i → front ≡ take (length front) (encode_utf8_all (get_or lines i []))
    → (line : List ℕ) × (all_scalars line ≡ true) × AreColumnsAtBytes line marks × (front ≡ take (length front) (encode_utf8_all line))
front_marked w lines rows i front marks h within marks_are is =
    let there : i < length lines = omega (arith, within, length-AreRowsOf w lines rows h) in (
      get_or lines i [],
      (rows_at w lines rows i h there).characters,
      subst (AreColumnsAtBytes (get_or lines i [])) (sym marks_are) (marks_right w lines rows i h there),
      is,
    )

-- a line with its rows, as it is borrowed
pub record IsBorrowedLine {Z : Type 0} (items : List (String Z)) (rows : List RowsView) (i : ℕ) (text : List ℕ) : Type 0 where
  pub bytes : text ≡ encode_utf8_all (get_or (lines_of items) i [])
  pub spelled : chars text ≡ get_or (lines_of items) i []
  pub short : length text < size_limit
  pub marked : AreColumnsAtBytes (chars text) (marks_at rows i)

pub borrowed_line :
    {Z : Type 0} (w : Wrapping) (items : List (String Z)) (rows : List RowsView) (i : ℕ) (item : String Z) (text : List ℕ)
    → AreRowsOf w (lines_of items) rows → i < length (lines_of items) → item ≡ get_or items i item → text ≡ string_bytes item → IsBorrowedLine items rows i text
borrowed_line w items rows i item text h there read same =
    let within : i < length items = omega (arith, there, length-map items characters_of) in
    let bytes = bytes_of_line items i item text within read same in
    let spelled : chars text ≡ get_or (lines_of items) i [] = ap chars same ∙ sym (line_at items i item within read) in
    record {
      bytes = bytes;
      spelled = spelled;
      short = omega (arith, (rows_at w (lines_of items) rows i h there).short, ap length bytes);
      marked = subst (λ (cs : List ℕ). AreColumnsAtBytes cs (marks_at rows i)) (sym spelled) (marks_right w (lines_of items) rows i h there);
    }

-- ---- the text before an offset

-- a text that begins a line, split at a known column
pub record IsSplitAt (front : List ℕ) (known : ℕ × ℕ) : Type 0 where
  pub boundary : IsCharBoundary front known.1
  pub columns : known.0 + length (chars (drop known.1 front)) ≡ length (chars front)

pub split_at : (line front : List ℕ) (known : ℕ × ℕ) → all_scalars line ≡ true → IsUtf8 front → front ≡ take (length front) (encode_utf8_all line) → IsColumnAtByte line known → known.1 ≤ length front → IsSplitAt front known
split_at line front known scalar text front_is at within =
    let bytes = encode_utf8_all line in
    let valid : IsUtf8 bytes = (line, (scalar, refl)) in
    let spelled : chars bytes ≡ line = chars_from_bytes bytes line valid refl in
    let offset_is : offset_in (chars bytes) known.0 ≡ known.1 = ap (λ (t : List ℕ). offset_in t known.0) spelled ∙ sym at.1 in
    let seam : IsCharBoundary bytes known.1 = subst (IsCharBoundary bytes) offset_is (IsCharBoundary-column bytes known.0 valid) in
    let head : take known.1 front ≡ take known.1 bytes = ap (take known.1) front_is ∙ take-take known.1 (length front) bytes within in
    let head_text : IsUtf8 (take known.1 front) = subst IsUtf8 (sym head) (IsUtf8-take bytes known.1 valid seam) in
    let head_is : take known.1 front ≡ encode_utf8_all (take known.0 line) =
    head ∙ ap (λ n. take n bytes) (sym offset_is) ∙ take_offset bytes known.0 valid ∙ ap (λ (t : List ℕ). encode_utf8_all (take known.0 t)) spelled in
    let size : length (chars (take known.1 front)) ≡ known.0 =
    ap length (chars_from_bytes (take known.1 front) (take known.0 line) head_text head_is) ∙ length-take-le known.0 line at.0 in
    let whole : chars front ≡ chars (take known.1 front) ++ chars (drop known.1 front) =
    ap chars (sym (take-append-drop known.1 front)) ∙ chars-append (take known.1 front) (drop known.1 front) head_text in
    record {
      boundary = IsCharBoundary-from_take front known.1 text within head_text;
      columns = omega (arith, size, ap length whole, length-append (chars (take known.1 front)) (chars (drop known.1 front)));
    }
