use Rattle.std.proofs.Common.{◌<◌, ◌∙◌, arith, length, subst, sym}
use Rattle.textarea_text.specs.Text.{lines_of}
use Rattle.textarea_screen_map.specs.BorrowedLines.{BorrowedRows}
use Rattle.textarea_screen_map.specs.RowTexts.{HasFrontOfLine}
use Rattle.textarea_screen_map.proofs.KnownColumns.{front_marked}
use Rattle.textarea_screen_map.proofs.Layouts.{length-AreRowsOf}
use Rattle.textarea_screen_map.proofs.view.TextLayoutView.place_in.Goals as goal
use Rattle.textarea_screen_map.proofs.view.TextLayoutView.place_in.Goals.{After-marks-marks}

pub rows_at-requires : goal.rows_at-requires
rows_at-requires c =
    let within : c.args.displayed.line < length (lines_of c.self.inside.lines.now) = subst (λ (v : BorrowedRows). c.args.displayed.line < length v.lines) (sym c.self.view_is) c.requires.line in
    omega (arith, within, length-AreRowsOf c.self.inside.map.now.wrapping (lines_of c.self.inside.lines.now) c.self.inside.map.now.rows c.self.invariant.0.right)

pub columns_of_front-first-requires : goal.columns_of_front-first-requires
columns_of_front-first-requires c =
    let within : c.args.displayed.line < length (lines_of c.self.inside.lines.now) = subst (λ (v : BorrowedRows). c.args.displayed.line < length v.lines) (sym c.self.view_is) c.requires.line in
    let front : HasFrontOfLine (lines_of c.self.inside.lines.now) c.args.displayed = subst (λ (v : BorrowedRows). HasFrontOfLine v.lines c.args.displayed) (sym c.self.view_is) c.requires.front in
    front_marked c.self.inside.map.now.wrapping (lines_of c.self.inside.lines.now) c.self.inside.map.now.rows c.args.displayed.line c.args.displayed.before.now c.marks-marks.result.now c.self.invariant.0.right
    (omega (arith, within, length-AreRowsOf c.self.inside.map.now.wrapping (lines_of c.self.inside.lines.now) c.self.inside.map.now.rows c.self.invariant.0.right)) (c.marks-marks.ensures ∙ c.rows_at.ensures.marks) front
