use Rattle.std.proofs.Common.{sym, arith, subst}
use Rattle.textarea_history.specs.Prelude.{lines_of, IsPlaceOf}
use Rattle.textarea_text.proofs.StringRows.{rows_place}
use Rattle.textarea_history.proofs.edit.change.Change.insert_inside.Goals as goal

pub insert_inside-requires-clause-place : goal.insert_inside-requires-clause-place
insert_inside-requires-clause-place c =
    let items = c.args.lines.now.items in
    subst (IsPlaceOf (lines_of items)) (sym c.start.ensures) (rows_place items c.args.self.now.place (omega (arith, c.requires.nonempty, c.args.lines.now.ok.0)) c.requires.fits.is_place)
