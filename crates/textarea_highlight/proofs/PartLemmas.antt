-- A line that shows a part of a row, and the line that shows the whole row.
use Rattle.std.proofs.Common.{◌≡◌, ◌⊎◌, ℕ, ◌+◌, ◌<◌, ◌≤◌, nat_lt, Bool, true, false, List, [], ◌∷◌, ◌++◌, length, take, Option, None, refl, sym, ap, subst, ◌∙◌, inl, inr, arith, IsUtf8, IsCharBoundary}
use Rattle.std.specs.List.{All}
use Rattle.std.proofs.lemmas.Bool.Decides.{nat_tests}
use Rattle.std.proofs.lemmas.List.{append-nil, length-take-le}
use Rattle.std.proofs.lemmas.List.Elements.{All-nil}
use Rattle.std.proofs.lemmas.List.Sorted.{All-permutation}
use Rattle.std.proofs.lemmas.Str.{chars-nil, IsCharBoundary-start, IsUtf8-take}
use Rattle.textarea_screen.specs.Text.{LineView, SpanView}
use Rattle.textarea_wrap.specs.Columns.{end_column}
use Rattle.textarea_highlight.specs.Borders.{ArePlaced, ArePlacedWithin}
use Rattle.textarea_highlight.specs.Columns.{column_of}
use Rattle.textarea_highlight.specs.Highlights.{Highlights, end_cell, end_style}
use Rattle.textarea_highlight.specs.Row.{IsPartOf, ShowsPart, part_end, part_numbers, whole_row}
use Rattle.textarea_highlight.specs.Seams.{IsBetweenSeams}
use Rattle.textarea_highlight.specs.Seen.{AreInTwo, IsPartBetween, IsText, ShowsBetween, spans_columns}
use Rattle.textarea_highlight.specs.Split.{IsSplit}
use Rattle.textarea_highlight.specs.declared.highlight.borders.Border.{Border}
use Rattle.textarea_highlight.specs.declared.highlight.highlighter.RowPart.{RowPart}
use Rattle.textarea_highlight.proofs.OneRowLemmas.{one_split, rises}
use Rattle.textarea_highlight.proofs.RowLemmas.{row_displayed, whole_is_part, whole_spans}
use Rattle.textarea_highlight.proofs.SpanLemmas.{AreParts, boundary-take, column_of-take, parts, placed-take, seam-take, spans-utf8, spans-width}
use Rattle.textarea_highlight.proofs.WholeRowLemmas.{all_segments, segments_shown}

no_column : (row : List ℕ) (tab_len : ℕ) → column_of row tab_len 0 ≡ 0
no_column row tab_len = ap (end_column tab_len 0) chars-nil

none-from : (row : List ℕ) (borders : List Border) (h : Highlights) (from to : ℕ) (spans : List SpanView) → IsSplit row borders h.base h.tab_len None from spans to → from ≡ to → spans ≡ []
none-from row borders h from to [] split same = refl
none-from row borders h from to (span ∷ spans) split same =
    absurd (omega (arith, same, split.1.not_empty, rises row borders h.base h.tab_len None split.0 spans to split.2))

module _ (h : Highlights) (part : RowPart) (line : LineView) (utf8 : IsUtf8 h.row) (placed : ArePlaced h.row h.borders) (left right : ℕ) (some : 0 < h.tab_len) (unmasked : h.mask ≡ None)
    (is : IsBetweenSeams h.row h.tab_len left right part) (shown : ShowsPart h part line) where
  sorted_placed : ArePlacedWithin h.row shown.sorted
  sorted_placed = λ k d below within. All-permutation (λ (border : Border). IsCharBoundary h.row border.offset) h.borders shown.sorted shown.order.same placed k d below

  within_row : part.to ≤ length h.row
  within_row = is.end_boundary.0

  abbrev front_row : List ℕ
  front_row = take part.to h.row

  front_length : length front_row ≡ part.to
  front_length = length-take-le part.to h.row within_row

  front_utf8 : IsUtf8 front_row
  front_utf8 = IsUtf8-take h.row part.to utf8 is.end_boundary

  front_placed : ArePlacedWithin front_row shown.sorted
  front_placed = placed-take h.row shown.sorted part.to within_row sorted_placed

  begins : IsCharBoundary front_row part.from
  begins = boundary-take h.row part.to part.from within_row is.order is.start_boundary

  -- the segments of the whole row, in two parts at the part's end
  all : (spans : List SpanView) × IsSplit h.row shown.sorted h.base h.tab_len None 0 spans (length h.row)
  all = all_segments h.row shown.sorted h.base h.tab_len None

  two : AreParts h.row shown.sorted h.base h.tab_len utf8 sorted_placed some 0 part.to all.0
  two = parts h.row shown.sorted h.base h.tab_len utf8 sorted_placed some 0 part.to all.0 (IsCharBoundary-start h.row utf8) (omega arith) within_row (λ _ below. is.end below) all.1

  front_split : IsSplit front_row shown.sorted h.base h.tab_len None 0 two.before (length front_row)
  front_split = subst (λ n. IsSplit front_row shown.sorted h.base h.tab_len None 0 two.before n) (sym front_length) two.split_before

  -- those before the end, in two parts at the part's start
  three : AreParts front_row shown.sorted h.base h.tab_len front_utf8 front_placed some 0 part.from two.before
  three =
      parts front_row shown.sorted h.base h.tab_len front_utf8 front_placed some 0 part.from two.before (IsCharBoundary-start front_row front_utf8) (omega arith) (omega (arith, front_length, is.order))
      (λ later below. seam-take h.row part.to part.from utf8 is.end_boundary (omega (arith, below, front_length)) (is.start later)) front_split

  same_segments : three.after ≡ shown.segments
  same_segments =
      one_split front_row shown.sorted h.base h.tab_len None part.from three.after shown.segments three.split_after
      (subst (λ n. IsSplit front_row shown.sorted h.base h.tab_len None part.from shown.segments n) (sym front_length)
      (subst (λ (mask : Option ℕ). IsSplit front_row shown.sorted h.base h.tab_len mask part.from shown.segments part.to) unmasked shown.split))

  displayed_columns : spans_columns three.after + column_of front_row h.tab_len part.from ≡ column_of front_row h.tab_len (length front_row)
  displayed_columns =
      spans-width front_row shown.sorted h.base h.tab_len front_utf8 front_placed some part.from three.after (length front_row) begins (omega arith) three.split_after

  displayed_to : part.column + spans_columns three.after ≡ column_of h.row h.tab_len part.to
  displayed_to =
      omega (
        arith,
        displayed_columns,
        is.column,
        column_of-take h.row h.tab_len part.to part.from is.order,
        column_of-take h.row h.tab_len part.to part.to (omega arith),
        ap (column_of front_row h.tab_len) front_length,
      )

  at_right : (last : Bool) → nat_lt part.to (length h.row) ≡ last → (part.to ≡ length h.row) ⊎ (All IsText three.after × (right ≤ part.column + spans_columns three.after))
  at_right false e = inl (let past : length h.row ≤ part.to = grind (arith, nat_tests) in omega (arith, past, within_row))
  at_right true e =
      let below : part.to < length h.row = grind (arith, nat_tests) in
      inr (
        spans-utf8 front_row shown.sorted h.base h.tab_len front_utf8 front_placed some part.from three.after (length front_row) begins (omega arith) three.split_after,
        omega (arith, is.at_right below, displayed_to),
      )

  -- a part from a seam to another one
  pub shows_between_seams : ShowsBetween h left right part line
  shows_between_seams = record {
    segments = all.0;
    shows = segments_shown h shown.sorted all.0 utf8 placed shown.order
        (subst (λ (mask : Option ℕ). IsSplit h.row shown.sorted h.base h.tab_len mask 0 all.0 (length h.row)) (sym unmasked) all.1);
    front = two.before;
    before = three.before;
    displayed = three.after;
    after = two.after;
    at_end = two.in_two;
    at_start = three.in_two;
    spans = shown.spans ∙ ap (λ (spans : List SpanView). part_numbers h part ++ (spans ++ end_cell (part_end h part))) (sym same_segments);
    style = shown.style;
    from_start = λ first. none-from (take part.from front_row) shown.sorted h 0 part.from three.before three.split_before (sym first);
    to_end = λ last. none-from h.row shown.sorted h part.to (length h.row) two.after two.split_after last;
    before_columns = omega (arith, columns_before, no_column (take part.from front_row) h.tab_len, first_column, is.column);
    before_text = spans-utf8 (take part.from front_row) shown.sorted h.base h.tab_len first_utf8 first_placed some 0 three.before part.from
        (IsCharBoundary-start (take part.from front_row) first_utf8) (omega (arith, first_length)) three.split_before;
    at_left = is.at_left;
    at_right = at_right (nat_lt part.to (length h.row)) refl;
  }
    where
      from_within : part.from ≤ length front_row
      from_within = omega (arith, front_length, is.order)

      first_length : length (take part.from front_row) ≡ part.from
      first_length = length-take-le part.from front_row from_within

      first_utf8 : IsUtf8 (take part.from front_row)
      first_utf8 = IsUtf8-take front_row part.from front_utf8 begins

      first_placed : ArePlacedWithin (take part.from front_row) shown.sorted
      first_placed = placed-take front_row shown.sorted part.from from_within front_placed

      columns_before : spans_columns three.before + column_of (take part.from front_row) h.tab_len 0 ≡ column_of (take part.from front_row) h.tab_len part.from
      columns_before = spans-width (take part.from front_row) shown.sorted h.base h.tab_len first_utf8 first_placed some 0 three.before part.from
          (IsCharBoundary-start (take part.from front_row) first_utf8) (omega (arith, first_length)) three.split_before

      first_column : column_of (take part.from front_row) h.tab_len part.from ≡ column_of h.row h.tab_len part.from
      first_column = column_of-take front_row h.tab_len part.from part.from (omega arith) ∙ column_of-take h.row h.tab_len part.to part.from is.order

no_parts : (spans : List SpanView) → AreInTwo spans spans []
no_parts spans = inl (sym (append-nil spans))

-- the whole row
pub shows_all : (h : Highlights) (left right : ℕ) (part : RowPart) (line : LineView) → IsUtf8 h.row → ArePlaced h.row h.borders → part ≡ whole_row h.row → ShowsPart h part line →
    ShowsBetween h left right part line
shows_all h left right part line utf8 placed all shown =
    let at_start : part.from ≡ 0 = ap (λ (p : RowPart). p.from) all in
    let at_end : part.to ≡ length h.row = ap (λ (p : RowPart). p.to) all in
    let no_column : part.column ≡ 0 = ap (λ (p : RowPart). p.column) all in
    let row = row_displayed h part line at_start at_end utf8 placed shown in
    record {
      segments = row.segments;
      shows = segments_shown h row.sorted row.segments utf8 placed row.order row.split;
      front = row.segments;
      before = [];
      displayed = row.segments;
      after = [];
      at_end = no_parts row.segments;
      at_start = inl refl;
      spans = row.spans ∙ sym (whole_spans part.from part.to (length h.row) h.numbers row.segments (end_style h) at_start at_end);
      style = row.style;
      from_start = λ _. refl;
      to_end = λ _. refl;
      before_text = All-nil IsText;
      before_columns = sym no_column;
      at_left = λ later. absurd (omega (arith, at_start, later));
      at_right = inl at_end;
    }

pub shows_between : (h : Highlights) (left right : ℕ) (part : RowPart) (line : LineView) → IsUtf8 h.row → ArePlaced h.row h.borders → IsPartBetween h left right part → ShowsPart h part line →
    ShowsBetween h left right part line
shows_between h left right part line utf8 placed (inl all) shown = shows_all h left right part line utf8 placed all shown
shows_between h left right part line utf8 placed (inr is) shown = shows_between_seams h part line utf8 placed left right is.1 is.0 is.2 shown

-- such a part is a part of the row
pub part_between-is : (h : Highlights) (left right : ℕ) (part : RowPart) → IsUtf8 h.row → IsPartBetween h left right part → IsPartOf h part
part_between-is h left right part utf8 (inl all) = subst (IsPartOf h) (sym all) (whole_is_part h utf8)
part_between-is h left right part utf8 (inr is) =
    record { order = is.2.order; start = is.2.start_boundary; end = is.2.end_boundary; column = is.2.column; near = is.2.near }
