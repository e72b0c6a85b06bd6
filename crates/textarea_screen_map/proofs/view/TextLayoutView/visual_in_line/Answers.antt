use Rattle.std.proofs.lemmas.Grind.{common_steps}
use Rattle.std.proofs.Common.{◌≡◌, ◌+◌, ◌-◌, ◌<◌, ◌≤◌, ◌∙◌, ℕ, List, [], ap, arith, drop, encode_utf8_all, get_or, length, max, subst, sym, take}
use Rattle.std.proofs.lemmas.List.{length-append, length-map}
use Rattle.std.specs.Str.{IsCharBoundary, chars}
use Rattle.textarea_text.specs.Offset.{offset_at}
use Rattle.textarea_text.specs.Place.{IsPlaceOf}
use Rattle.textarea_text.specs.Text.{lines_of}
use Rattle.textarea_text.proofs.Columns.{IsCharBoundary-column, encodes_split, offset_in}
use Rattle.textarea_wrap.specs.Columns.{display_end_column}
use Rattle.textarea_wrap.specs.WrapResult.{IsWrapped}
use Rattle.textarea_blocks.specs.Sums.{range_at, ranges_at, row_total}
use Rattle.textarea_screen_map.specs.BorrowedLines.{BorrowedRows}
use Rattle.textarea_screen_map.specs.VisualPositions.{IsVisualPosition}
use Rattle.textarea_screen_map.proofs.Holding.{wrapped_of, first_begins, range_is, some_rows}
use Rattle.textarea_screen_map.proofs.KnownColumns.{IsBorrowedLine, borrowed_line}
use Rattle.textarea_screen_map.proofs.Layouts.{length-AreRowsOf}
use Rattle.textarea_screen_map.proofs.VisualRows.{visual_in}
use Rattle.textarea_screen_map.proofs.view.TextLayoutView.visual_in_line.Goals as goal
use Rattle.textarea_screen_map.proofs.view.TextLayoutView.visual_in_line.Goals.{After-as_str-line, After-as_slice-ranges}

place : (c : After-as_slice-ranges) → IsPlaceOf (lines_of c.self.inside.lines.now) c.args.place
place c = subst (λ (v : BorrowedRows). IsPlaceOf v.lines c.args.place) (sym c.self.view_is) c.requires

wrapped :
    (c : After-as_slice-ranges) → IsWrapped c.self.inside.map.now.wrapping.mode c.self.inside.map.now.wrapping.tab_len (max c.self.inside.map.now.wrapping.width 1)
    (encode_utf8_all (get_or (lines_of c.self.inside.lines.now) c.args.place.0 [])) c.as_slice-ranges.result.now
wrapped c = wrapped_of _ _ _ _ _ (c.as_slice-ranges.ensures ∙ c.rows_at.ensures.ranges) c.self.invariant.0.right (place c).0

offset_is : (c : After-as_slice-ranges) → c.offset_of-offset.result ≡ offset_in (get_or (lines_of c.self.inside.lines.now) c.args.place.0 []) c.args.place.1
offset_is c = subst (λ (v : BorrowedRows). c.offset_of-offset.result ≡ offset_at v.lines c.args.place) (sym c.self.view_is) c.offset_of-offset.ensures

line : (c : After-as_str-line) → c.args.place.0 < length (lines_of c.self.inside.lines.now) → IsBorrowedLine c.self.inside.lines.now c.self.inside.map.now.rows c.args.place.0 c.as_str-line.result.now
line c within =
    borrowed_line c.self.inside.map.now.wrapping c.self.inside.lines.now c.self.inside.map.now.rows c.args.place.0 c.index-self-place.result
    c.as_str-line.result.now c.self.invariant.0.right within c.index-self-place.is (cc (c.as_str-line.ensures.value, c.index-self-place.is))

pub rows_at-requires : goal.rows_at-requires
rows_at-requires c = grind (arith, common_steps, length-AreRowsOf, length-map)

pub row_holding-row-requires : goal.row_holding-row-requires
row_holding-row-requires c =
    let is = wrapped (goal.at.row_holding-row-requires c).After-as_slice-ranges in
    record { some = some_rows _ _ _ _ _ is; first = omega (arith, first_begins _ _ _ _ _ is) }

pub width_between-column-requires-clause-short : goal.width_between-column-requires-clause-short
width_between-column-requires-clause-short c =
    let at = goal.at.width_between-column-requires-clause-short c in
    (line at.After-as_str-line (place at.After-as_slice-ranges).0).short

pub width_between-column-requires-clause-start : goal.width_between-column-requires-clause-start
width_between-column-requires-clause-start c =
    let at = goal.at.width_between-column-requires-clause-start c in
    let known = line at.After-as_str-line (place at.After-as_slice-ranges).0 in
    rw known.bytes (range_is _ _ _ _ _ c.row_holding-row.result (wrapped at.After-as_slice-ranges) c.row_holding-row.ensures.within).start

pub width_between-column-requires-clause-end : goal.width_between-column-requires-clause-end
width_between-column-requires-clause-end c =
    let at = goal.at.width_between-column-requires-clause-end c in
    let known = line at.After-as_str-line (place at.After-as_slice-ranges).0 in
    let same = offset_is at.After-as_slice-ranges ∙ ap (λ (t : List ℕ). offset_in t c.args.place.1) (sym known.spelled) in
    subst (IsCharBoundary c.as_str-line.result.now) (sym same) (IsCharBoundary-column c.as_str-line.result.now c.args.place.1 c.as_str-line.utf8)

pub returns : goal.returns
returns c =
    let at = goal.at.returns c in
    let map = c.self.inside.map.now in
    let cs = get_or (lines_of c.self.inside.lines.now) c.args.place.0 [] in
    let row = c.row_holding-row.result in
    let offset = c.offset_of-offset.result in
    let same = offset_is at.After-as_slice-ranges in
    let known = line at.After-as_str-line (place at.After-as_slice-ranges).0 in
    let start = ap (λ (t : List (ℕ × ℕ)). (range_at t row).0) (c.as_slice-ranges.ensures ∙ c.rows_at.ensures.ranges) in
    let begins = (range_at c.as_slice-ranges.result.now row).0 in
    let slice = take (offset - begins) (drop begins c.as_str-line.result.now) in
    let first = (range_at (ranges_at map.rows c.args.place.0) row).0 in
    let short : offset ≤ length (encode_utf8_all cs) = omega (arith, same, ap length (encodes_split cs c.args.place.1), length-append (encode_utf8_all (take c.args.place.1 cs)) (encode_utf8_all (drop c.args.place.1 cs))) in
    let found = visual_in map.wrapping (lines_of c.self.inside.lines.now) map.rows c.args.place row offset c.width_between-column.result slice c.self.invariant.0.right (place at.After-as_slice-ranges)
    (omega (arith, c.row_holding-row.ensures.within, ap length (c.as_slice-ranges.ensures ∙ c.rows_at.ensures.ranges)))
    (omega (arith, c.row_holding-row.ensures.from, start))
    (λ more. omega (
      arith,
      c.row_holding-row.ensures.next (omega (arith, more, ap length (c.as_slice-ranges.ensures ∙ c.rows_at.ensures.ranges))),
      ap (λ (t : List (ℕ × ℕ)). (range_at t (row + 1)).0) (c.as_slice-ranges.ensures ∙ c.rows_at.ensures.ranges),
    ))
    same short c.width_between-column.ensures.text
    (ap (λ (n : ℕ). take (offset - n) (drop n c.as_str-line.result.now)) start ∙ ap (λ (t : List ℕ). take (offset - first) (drop first t)) known.bytes)
    (c.width_between-column.ensures.value ∙ ap (λ t. display_end_column t 0 (chars slice)) (c.tab_len-tab_len.ensures ∙ ap (λ (v : BorrowedRows). v.wrapping.tab_len) (sym c.self.view_is))) in
    record {
      number = subst (λ (v : BorrowedRows). row < length (ranges_at v.rows c.args.place.0)) c.self.view_is (omega (arith, c.row_holding-row.ensures.within, ap length (c.as_slice-ranges.ensures ∙ c.rows_at.ensures.ranges)));
      visual = subst (λ (v : BorrowedRows). IsVisualPosition v.wrapping.tab_len v.lines v.rows c.args.place (record { row = row_total (take c.args.place.0 v.rows) + row; column = c.width_between-column.result })) c.self.view_is found;
    }
