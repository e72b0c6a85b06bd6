use Rattle.std.proofs.Common.{◌≡◌, ◌<◌, ◌+◌, ◌-◌, ◌∙◌, List, ℕ, ap, arith, length, refl, sym, take}
use Rattle.std.specs.Str.{chars}
use Rattle.std.proofs.lemmas.Grind.{common_steps}
use Rattle.std.proofs.lemmas.List.{length-map}
use Rattle.textarea_text.specs.Text.{characters_of, lines_of}
use Rattle.textarea_screen_map.proofs.MarkLemmas.{whole_slice}
use Rattle.textarea_screen_map.proofs.Layouts.{length-AreRowsOf}
use Rattle.textarea_screen_map.proofs.VisualRows.{IsFoundRow, found_row, row_displayed}
use Rattle.textarea_screen_map.proofs.screen_map.ScreenMap.row_of_line.Goals as goal
use Rattle.textarea_screen_map.proofs.screen_map.ScreenMap.row_of_line.Goals.{After-as_slice-ranges, After-as_str-text}

within : (c : After-as_slice-ranges) → c.args.line < length c.args.lines.now
within c =
    omega (arith, c.requires.line, length-AreRowsOf c.args.self.now.wrapping (lines_of c.args.lines.now) c.args.self.now.rows c.requires.rows, length-map c.args.lines.now characters_of)

row_is : (c : After-as_str-text) → IsFoundRow c.args.lines.now c.args.self.now.rows c.args.line c.args.number c.as_slice-ranges.result.now c.as_str-text.result.now
row_is c = found_row _ _ _ _ _ _ c.index-lines-line.result _ c.requires.rows c.requires.line c.requires.number (c.as_slice-ranges.ensures ∙ c.rows_at.ensures.ranges) c.index-lines-line.is c.as_str-text.ensures.value

pub offset_bounds-lines-line : goal.offset_bounds-lines-line
offset_bounds-lines-line c = omega (arith, within (goal.at.offset_bounds-lines-line c).After-as_slice-ranges)

pub bounds-lines-line : goal.bounds-lines-line
bounds-lines-line c = within (goal.at.bounds-lines-line c).After-as_slice-ranges

pub range-before-requires-clause-end_boundary : goal.range-before-requires-clause-end_boundary
range-before-requires-clause-end_boundary c = (row_is (goal.at.range-before-requires-clause-end_boundary c).After-as_str-text).text_is.placed.start

pub range-shown-requires : goal.range-shown-requires
range-shown-requires c =
    let placed = (row_is (goal.at.range-shown-requires c).After-as_str-text).text_is.placed in
    record { start_le_end = placed.ordered; start_boundary = λ _. placed.start; end_boundary = placed.end }

front : (before text line : List ℕ) (start : ℕ) → before ≡ take (start - 0) text → length before + 0 ≡ start → text ≡ line → before ≡ take (length before) line
front before text line start is size same = grind (arith, common_steps)

pub returns : goal.returns
returns c =
    let known = row_is (goal.at.returns c).After-as_str-text in
    let is = known.text_is in
    let text = c.as_str-text.result.now in
    record {
      displayed = row_displayed _ _ _ _ _ _ is.line_is (omega (arith, c.range-before.ensures.len, is.start_is))
          (grind (arith, common_steps))
          (ap chars c.range-shown.ensures.value ∙ is.text_is) is.last_is;
      number = refl;
      line = c.requires.line;
      front = front c.range-before.result.now text _ _ c.range-before.ensures.value c.range-before.ensures.len known.bytes;
      whole = λ same. whole_slice text c.range-shown.result.now _ _ c.range-shown.ensures.value (same ∙ ap length (sym known.bytes)) ∙ known.bytes;
      before = omega (arith, is.short, is.placed.start.0, c.range-before.ensures.len);
      short = omega (arith, is.short, is.placed.end.0, c.range-shown.ensures.len);
    }
