use Rattle.std.proofs.Common.{◌∙◌, ap, sym, arith, subst, length}
use Rattle.textarea_history.specs.Prelude.{chars, lines_of, offset_at, IsPlaceOf}
use Rattle.textarea_text.proofs.StringRows.{row_within, rows_place}
use Rattle.textarea_text.proofs.Insides.{column_within, offset_read}
use Rattle.textarea_history.proofs.edit.change.Change.apply.Goals as goal
use Rattle.textarea_history.proofs.edit.change.Change.apply.Goals.{After-start-row}

-- the start is a position of the lines
there : (c : After-start-row) → IsPlaceOf (lines_of c.args.lines.now.items) c.start-row.result
there c =
    let items = c.args.lines.now.items in
    subst (IsPlaceOf (lines_of items)) (sym c.start-row.ensures) (rows_place items c.args.self.now.place (omega (arith, c.requires.nonempty, c.args.lines.now.ok.0)) c.requires.fits.is_place)

pub index-requires : goal.index-requires
index-requires c =
    omega (arith, row_within c.args.lines.now.items c.start-row.result (there (goal.at.index-requires c).After-start-row), c.args.lines.now.ok.0)

pub byte_offset-offset-requires : goal.byte_offset-offset-requires
byte_offset-offset-requires c =
    omega (arith, column_within c.args.lines.now.items c.start-row.result c.index.result.now (there (goal.at.byte_offset-offset-requires c).After-start-row) c.index.ensures, ap (λ t. length (chars t)) c.as_str.ensures.value)

pub apply_inside-requires-clause-offset : goal.apply_inside-requires-clause-offset
apply_inside-requires-clause-offset c =
    let items = c.args.lines.now.items in
    offset_read items c.start-row.result c.index.result.now c.as_str.result.now c.byte_offset-offset.result (there (goal.at.apply_inside-requires-clause-offset c).After-start-row) c.index.ensures
    c.as_str.ensures.value c.byte_offset-offset.ensures
    ∙ ap (offset_at (lines_of items)) c.start-row.ensures
