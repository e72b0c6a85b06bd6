-- Marks of a line: the line's start, and those that a change leaves.
use Rattle.std.proofs.lemmas.Grind.{common_steps}
use Rattle.std.proofs.Common.{◌≡◌, ℕ, ◌+◌, ◌-◌, ◌*◌, ◌<◌, ◌≤◌, inl, inr, max, List, [], ◌++◌, length, take, drop, get_or, sym, ap, refl, subst, ◌∙◌, arith, encode_utf8, encode_utf8_all}
use Rattle.std.proofs.lemmas.Bool.{cases_lt}
use Rattle.std.proofs.lemmas.List.{get_or-take, length-drop, length-take, length-take-le, nil_from_length, take-take, take_all}
use Rattle.std.proofs.Math.Seq.{take-add}
use Rattle.std.proofs.lemmas.Str.{IsUtf8-past_char, IsUtf8-take, chars-append, chars_past_char, encodes-chars}
use Rattle.std.specs.Str.{IsCharBoundary, IsUtf8, chars}
use Rattle.textarea_text.proofs.Columns.{IsUtf8-column, chars-drop, chars-take, drop_offset, length_split, offset_in}
use Rattle.textarea_wrap.specs.Columns.{column_after, display_end_column}
use Rattle.textarea_wrap.proofs.ColumnLemmas.{end_column-append, shorter_after}
use Rattle.textarea_screen_map.specs.declared.line_marks.Mark.{Mark}
use Rattle.textarea_screen_map.specs.LineMarks.{AreMarks, AreMarksOf, IsMark, IsSameBefore, MarkedLine, line_start}
use Rattle.textarea_screen_map.specs.VisualRows.{column_at}
use Rattle.textarea_screen_map.proofs.RowColumns.{column_at-le, column_at-more, passed}

pub start_is_mark : (tab_len : ℕ) (line : List ℕ) → IsMark tab_len line line_start
start_is_mark tab_len line = record { within = omega arith; offset_is = refl; display_is = refl; first = λ k below. absurd (omega (arith, below)); near = omega arith }

-- a mark of a line is one of each line with the same characters before it
mark_stays : (tab_len : ℕ) (old new : List ℕ) (column : ℕ) (mark : Mark) → take column new ≡ take column old → mark.column ≤ column → IsMark tab_len old mark → IsMark tab_len new mark
mark_stays tab_len old new column mark same up_to h =
    let front : (n : ℕ) → n ≤ column → take n new ≡ take n old = λ n below. sym (take-take n column new below) ∙ ap (take n) same ∙ take-take n column old below in
    record {
      within = grind (arith, common_steps, h.within, front mark.column up_to, length-take-le mark.column old h.within);
      offset_is = h.offset_is ∙ ap (λ t. length (encode_utf8_all t)) (sym (front mark.column up_to));
      display_is = grind (arith, common_steps, h.display_is, front mark.column up_to);
      first = λ k below. grind (arith, common_steps, h.first k below, front k (omega (arith, below, up_to)));
      near = h.near;
    }

-- the marks up to a column, when the line changes from there on
cut_marks :
    (tab_len : ℕ) (old new : List ℕ) (column count : ℕ) (marks : List Mark) → take column new ≡ take column old → count ≤ length marks
    → (0 < count → (get_or marks (count - 1) line_start).column ≤ column) → AreMarks tab_len old marks → AreMarks tab_len new (take count marks)
cut_marks tab_len old new column count marks same within up_to h =
    let size : length (take count marks) ≡ count = length-take-le count marks within in
    let at : (i : ℕ) → i < count → get_or (take count marks) i line_start ≡ get_or marks i line_start = λ i below. get_or-take count marks i line_start below in
    record {
      right = λ i below.
          let less : i < count = omega (arith, below, size) in
          let early : (get_or marks i line_start).column ≤ column = omega (arith, h.ordered i (count - 1) (omega (arith, less)) (omega (arith, less, within)), up_to (omega (arith, less))) in
          subst (IsMark tab_len new) (sym (at i less)) (mark_stays tab_len old new column (get_or marks i line_start) same early (h.right i (omega (arith, less, within))));
      ordered = λ i j up below.
          let less : j < count = omega (arith, below, size) in
          omega (arith, h.ordered i j up (omega (arith, less, within)), ap (λ (m : Mark). m.column) (at i (omega (arith, up, less))), ap (λ (m : Mark). m.column) (at j less));
    }

pub cut_in :
    (old new : List (List ℕ)) (row column count : ℕ) (was is : MarkedLine) → IsSameBefore old new row column → was.row ≡ row
    → count ≤ length was.marks → (0 < count → (get_or was.marks (count - 1) line_start).column ≤ column) → is.row ≡ was.row → is.tab_len ≡ was.tab_len
    → is.marks ≡ take count was.marks → AreMarksOf old was → AreMarksOf new is
cut_in old new row column count was is same here within up_to row_is tab_is marks_are h =
    rw (marks_are, tab_is, row_is) (cut_marks was.tab_len (get_or old was.row []) (get_or new was.row []) column count was.marks (rw here same.front) within up_to h)

-- ---- a walk from a mark on

-- the rest of a line after a column, which is at this display column
pub record IsWalked (tab_len : ℕ) (line rest : List ℕ) (column display : ℕ) : Type 0 where
  pub text : IsUtf8 rest
  pub left : drop column (chars line) ≡ chars rest
  pub within : column ≤ length (chars line)
  pub display_is : display ≡ column_at tab_len (chars line) column
  pub fits : display + 255 * length rest ≤ 255 * length line

pub walk_from :
    (tab_len : ℕ) (line rest : List ℕ) (mark : Mark) → IsUtf8 line → IsMark tab_len (chars line) mark → rest ≡ drop mark.offset line
    → IsWalked tab_len line rest mark.column mark.display × (mark.offset + length rest ≡ length line)
walk_from tab_len line rest mark valid h is =
    let there : rest ≡ drop (offset_in (chars line) mark.column) line = is ∙ ap (λ n. drop n line) h.offset_is in
    let spelled : rest ≡ encode_utf8_all (drop mark.column (chars line)) = there ∙ drop_offset line mark.column valid in
    let text : IsUtf8 rest = subst IsUtf8 (sym spelled) (IsUtf8-column line mark.column valid) in
    let bytes : mark.offset + length rest ≡ length line = omega (arith, h.offset_is, length_split line mark.column valid, ap length spelled) in (
      record { text = text; left = sym (chars-drop line rest mark.column valid text there); within = h.within; display_is = h.display_is; fits = omega (arith, h.near, bytes) },
      bytes,
    )

-- the column after the next character, which is there
pub walk_more :
    (tab_len : ℕ) (line rest more : List ℕ) (c column display next : ℕ) → IsWalked tab_len line rest column display → rest ≡ encode_utf8 c ++ more
    → next ≡ column_after (max tab_len 1) display c → next ≤ display + 255 → (column < length (chars line)) × IsWalked tab_len line more (column + 1) next
walk_more tab_len line rest more c column display next was split next_is near =
    let read = chars_past_char rest more c was.text split in
    let step = passed (chars line) (chars more) column c was.within (was.left ∙ read) in (
      step.0,
      record {
        text = IsUtf8-past_char rest more c was.text split;
        left = step.2;
        within = omega (arith, step.0);
        display_is = cc (next_is, was.display_is, step.1, column_at-more tab_len (chars line) column 0 step.0);
        fits = omega (arith, was.fits, near, shorter_after c more rest split);
      },
    )

-- a position whose display column is past that of the position before it
pub walk_mark :
    (tab_len : ℕ) (line rest : List ℕ) (at : Mark) (column : ℕ) → IsUtf8 line → IsWalked tab_len line rest at.column at.display
    → at.offset + length rest ≡ length line → at.column ≡ column + 1 → column_at tab_len (chars line) column < at.display → IsMark tab_len (chars line) at
walk_mark tab_len line rest at column valid h bytes is less =
    let spelled : encode_utf8_all (drop at.column (chars line)) ≡ rest = ap encode_utf8_all h.left ∙ encodes-chars rest h.text in
    record {
      within = h.within;
      offset_is = omega (arith, bytes, length_split line at.column valid, ap length spelled);
      display_is = h.display_is;
      first = λ k below. omega (arith, column_at-le tab_len (chars line) k column (omega (arith, below, is)), less);
      near = omega (arith, bytes, h.fits);
    }

-- ---- a text that begins a line

pub whole_slice : (line slice : List ℕ) (n start : ℕ) → slice ≡ take n (drop start line) → length slice ≡ length line → slice ≡ line
whole_slice line slice n start is same =
    let size : length slice ≤ length line - start = omega (arith, ap length is, length-take n (drop start line), length-drop start line) in
    let least : length slice ≤ n = omega (arith, ap length is, length-take n (drop start line)) in
    elim (cases_lt 0 (length line)) [
      | inl some ↦
          let zero_is : start ≡ 0 = omega (arith, size, same, some) in
          is ∙ ap (λ k. take n (drop k line)) zero_is ∙ take_all n line (omega (arith, least, same))
      | inr none ↦ nil_from_length slice (omega (arith, same, none)) ∙ sym (nil_from_length line (omega (arith, none)))
    ]

-- the column after a text that begins a line, from a known position on
pub column_from_mark :
    (tab_len : ℕ) (line slice : List ℕ) (mark : Mark) (end : ℕ) → IsUtf8 line → IsMark tab_len (chars line) mark → mark.offset ≤ end
    → slice ≡ take (end - mark.offset) (drop mark.offset line) → IsCharBoundary line mark.offset
    → display_end_column tab_len mark.display (chars slice) ≡ display_end_column tab_len 0 (chars (take end line))
column_from_mark tab_len line slice mark end valid h up_to is seam =
    let front = take mark.offset line in
    let front_valid : IsUtf8 front = IsUtf8-take line mark.offset valid seam in
    let front_is : chars front ≡ take mark.column (chars line) = chars-take line front mark.column valid front_valid (ap (λ n. take n line) h.offset_is) in
    let size : mark.offset + (end - mark.offset) ≡ end = omega (arith, up_to) in
    let parts : take end line ≡ front ++ slice = ap (λ n. take n line) (sym size) ∙ take-add mark.offset (end - mark.offset) line ∙ ap (λ t. front ++ t) (sym is) in
    let spelled : chars (take end line) ≡ take mark.column (chars line) ++ chars slice = ap chars parts ∙ chars-append front slice front_valid ∙ ap (λ t. t ++ chars slice) front_is in
    ap (λ n. display_end_column tab_len n (chars slice)) h.display_is
    ∙ sym (end_column-append (max tab_len 1) 0 (take mark.column (chars line)) (chars slice))
    ∙ ap (display_end_column tab_len 0) (sym spelled)

pub from_start : (line : List ℕ) (start end : ℕ) → start ≡ 0 → take end line ≡ take (end - start) (drop start line)
from_start line start end e =
    let same : end ≡ end - 0 = omega arith in
    rw e (ap (λ n. take n line) same)
