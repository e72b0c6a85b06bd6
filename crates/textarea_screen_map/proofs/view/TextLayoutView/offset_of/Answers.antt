use Rattle.std.proofs.lemmas.Grind.{common_steps}
use Rattle.std.proofs.Common.{arith, subst, sym}
use Rattle.std.proofs.lemmas.List.{length-map}
use Rattle.textarea_text.specs.Place.{IsPlaceOf}
use Rattle.textarea_text.specs.Text.{lines_of}
use Rattle.textarea_screen_map.specs.BorrowedLines.{BorrowedRows}
use Rattle.textarea_screen_map.proofs.KnownColumns.{borrowed_line}
use Rattle.textarea_screen_map.proofs.Layouts.{length-AreRowsOf}
use Rattle.textarea_screen_map.proofs.view.TextLayoutView.offset_of.Goals as goal

pub rows_at-requires : goal.rows_at-requires
rows_at-requires c = grind (arith, common_steps, length-AreRowsOf, length-map)

pub offset_of_column-requires-clause-marks : goal.offset_of_column-requires-clause-marks
offset_of_column-requires-clause-marks c =
    let place : IsPlaceOf (lines_of c.self.inside.lines.now) c.args.place = subst (λ (v : BorrowedRows). IsPlaceOf v.lines c.args.place) (sym c.self.view_is) c.requires in
    rw (c.marks-rows_marks.ensures, c.rows_at.ensures.marks)
    (borrowed_line c.self.inside.map.now.wrapping c.self.inside.lines.now c.self.inside.map.now.rows c.args.place.0 c.index-self-place.result
    c.as_str-line.result.now c.self.invariant.0.right place.0 c.index-self-place.is (cc (c.as_str-line.ensures.value, c.index-self-place.is))).marked
