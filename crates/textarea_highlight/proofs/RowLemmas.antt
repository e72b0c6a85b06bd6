-- The spans of a part of a row, and of a whole row.
use Rattle.std.proofs.Common.{arith, ◌≡◌, ℕ, ◌≤◌, false, ◌<◌, ◌==◌, Bool, cond, List, [], ◌++◌, length, take, Option, None, IsCharBoundary, IsUtf8, sym, ap, ap₂, subst, ◌∙◌}
use Rattle.std.proofs.lemmas.Bool.{cond-false, cond-true, eq-eqb}
use Rattle.std.proofs.lemmas.Bool.Decides.{nat_tests}
use Rattle.std.proofs.lemmas.List.{append_assoc, length-take-le, take_all}
use Rattle.std.proofs.lemmas.List.Sorted.{All-permutation}
use Rattle.std.proofs.lemmas.Str.{IsCharBoundary-end, IsCharBoundary-start, chars-nil}
use Rattle.textarea_wrap.specs.Columns.{end_column}
use Rattle.textarea_screen.specs.declared.screen.style.Style.{Style}
use Rattle.textarea_screen.specs.Style.{empty_style}
use Rattle.textarea_screen.specs.Text.{LineView, SpanView}
use Rattle.textarea_highlight.specs.declared.highlight.borders.Border.{Border}
use Rattle.textarea_highlight.specs.declared.highlight.highlighter.RowPart.{RowPart}
use Rattle.textarea_highlight.specs.Borders.{ArePlaced, IsBorderOrder, match_borders}
use Rattle.textarea_highlight.specs.Split.{IsSplit}
use Rattle.textarea_highlight.specs.Highlights.{Highlights, end_style, end_cell, with_matches}
use Rattle.textarea_highlight.specs.Row.{AddsPart, IsPartOf, ShowsPart, ShowsRow, part_end, part_numbers, whole_row}
use Rattle.textarea_highlight.proofs.WholeLemmas.{whole}

pub whole_spans : (from to len : ℕ) (numbers segments : List SpanView) (end : Option Style) → from ≡ 0 → to ≡ len →
    cond (from == 0) numbers [] ++ (segments ++ end_cell (cond (to == len) end None)) ≡ numbers ++ (segments ++ end_cell end)
whole_spans from to len numbers segments end at_start at_end =
    ap₂ (λ (first : Bool) (last : Bool). cond first numbers [] ++ (segments ++ end_cell (cond last end None)))
    (ap (λ n. n == 0) at_start) (eq-eqb to len at_end)

pub cleared_numbers : (h : Highlights) (part : RowPart) → 0 < part.from → [] ≡ part_numbers h part
cleared_numbers h part later = let no : (part.from == 0) ≡ false = grind (arith, nat_tests) in sym (cond-false (part.from == 0) h.numbers [] no)

pub all_numbers : (h : Highlights) (part : RowPart) → part.from ≤ 0 → h.numbers ≡ part_numbers h part
all_numbers h part begins = sym (cond-true (part.from == 0) h.numbers [] (eq-eqb part.from 0 (omega arith)))

-- the segments of a part after the spans in front of the row, with its borders sorted; `v` is the
-- highlighter by its fields
pub part_added : (v h : Highlights) (part : RowPart) (sorted : List Border) (numbers before all : List SpanView) (style : Style) → v ≡ h → IsBorderOrder v.borders sorted →
    part.to ≤ length v.row → before ≡ part_numbers v part →
    AddsPart (record v { numbers = numbers; borders = sorted }) part before all → style ≡ empty_style → ShowsPart h part (record { spans = all; style = style })
part_added v h part sorted numbers before all style same order within is_before added plain =
    subst (λ (k : Highlights). ShowsPart k part (record { spans = all; style = style })) same (record {
      sorted = sorted;
      order = order;
      segments = added.split.segments;
      split = subst (λ n. IsSplit (take part.to v.row) sorted v.base v.tab_len v.mask part.from added.split.segments n) (length-take-le part.to v.row within) added.split.split;
      spans = added.spans ∙ ap (λ (front : List SpanView). front ++ end_cell (part_end v part)) (added.split.added ∙ ap (λ (b : List SpanView). b ++ added.split.segments) is_before)
          ∙ append_assoc (part_numbers v part) added.split.segments (end_cell (part_end v part));
      style = plain;
    })

pub whole_is_part : (h : Highlights) → IsUtf8 h.row → IsPartOf h (whole_row h.row)
whole_is_part h utf8 = record {
  order = omega arith;
  start = IsCharBoundary-start h.row utf8;
  end = IsCharBoundary-end h.row;
  column = sym (ap (end_column h.tab_len 0) chars-nil);
  near = omega arith;
}

-- a part that is the whole row
pub row_displayed : (h : Highlights) (part : RowPart) (line : LineView) → part.from ≡ 0 → part.to ≡ length h.row → IsUtf8 h.row → ArePlaced h.row h.borders → ShowsPart h part line →
    ShowsRow h line
row_displayed h part line at_start at_end utf8 placed displayed =
    let all : take part.to h.row ≡ h.row = take_all part.to h.row (omega (arith, at_end)) in
    let split : IsSplit h.row displayed.sorted h.base h.tab_len h.mask 0 displayed.segments (length h.row) =
    subst (λ n. IsSplit h.row displayed.sorted h.base h.tab_len h.mask 0 displayed.segments n) at_end
    (subst (λ n. IsSplit h.row displayed.sorted h.base h.tab_len h.mask n displayed.segments part.to) at_start
    (subst (λ (r : List ℕ). IsSplit r displayed.sorted h.base h.tab_len h.mask part.from displayed.segments part.to) all displayed.split)) in
    record {
      sorted = displayed.sorted;
      order = displayed.order;
      segments = displayed.segments;
      split = split;
      spans = displayed.spans ∙ whole_spans part.from part.to (length h.row) h.numbers displayed.segments (end_style h) at_start at_end;
      style = displayed.style;
      whole = λ stops. whole h.row displayed.sorted h.base h.tab_len h.mask displayed.segments utf8
          (All-permutation (λ (border : Border). IsCharBoundary h.row border.offset) h.borders displayed.sorted displayed.order.same placed) stops split;
    }

-- the borders of matches after the earlier ones
pub matches_added : (v h : Highlights) → v ≡ h → (pairs : List (ℕ × ℕ)) (style : Style) (new added : List Border) → new ≡ v.borders ++ added → added ≡ match_borders v.row pairs style →
    record v { borders = new } ≡ with_matches h pairs style
matches_added v h same pairs style new added grown found =
    subst (λ (k : Highlights). record v { borders = new } ≡ with_matches k pairs style) same
    (ap (λ (borders : List Border). record v { borders = borders }) (grown ∙ ap (λ (borders : List Border). v.borders ++ borders) found))
