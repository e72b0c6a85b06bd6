use Rattle.std.proofs.Common.{sym, subst}
use Rattle.textarea_history.specs.Prelude.{lines_of, IsPlaceOf}
use Rattle.textarea_text.proofs.StringRows.{rows_place}
use Rattle.textarea_history.proofs.edit.change.Change.prepare_insertion.Goals as goal

known : (c : goal.After-start-start) → IsPlaceOf (lines_of c.args.lines.now) c.start-start.result
known c = subst (IsPlaceOf (lines_of c.args.lines.now)) (sym c.start-start.ensures) (rows_place c.args.lines.now c.args.self.now.place c.requires.nonempty c.requires.fits.is_place)

pub prepare_replacement-requires-clause-from : goal.prepare_replacement-requires-clause-from
prepare_replacement-requires-clause-from c = known c

pub prepare_replacement-requires-clause-to : goal.prepare_replacement-requires-clause-to
prepare_replacement-requires-clause-to c = known c
