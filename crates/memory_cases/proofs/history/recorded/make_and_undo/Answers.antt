use Rattle.std.proofs.Common.{List, arith, subst, sym}
use Rattle.textarea_text.specs.Splice.{Fits, inverse}
use Rattle.textarea_text.specs.Text.{Symbol, text_of}
use Rattle.textarea_history.specs.Edit.{splice_of}
use Rattle.memory_cases.proofs.Edits.{back_fits, fits_lines}
use Rattle.memory_cases.proofs.history.recorded.make_and_undo.Goals as goal

pub redo-requires-clause-fits : goal.redo-requires-clause-fits
redo-requires-clause-fits c =
    let splice = c.in_ok-edit.edit.splice in
    let lines = c.in_ok-lines.lines in
    fits_lines lines.items splice (omega (arith, lines.ok, c.in_ok-lines.ensures.some))
    (subst (λ (t : List Symbol). Fits t splice) (sym c.in_ok-lines.ensures.text) (subst (Fits (text_of c.args.lines.now)) (sym c.in_ok-edit.ensures.splice) c.requires.ready.fits))

pub undo-requires-clause-fits : goal.undo-requires-clause-fits
undo-requires-clause-fits c =
    let plan = c.args.plan.now in
    let lines = c.redo.new.lines in
    fits_lines lines.items (inverse c.in_ok-edit.edit.splice) (omega (arith, lines.ok, c.redo.ensures.nonempty))
    (back_fits (text_of c.args.lines.now) (text_of c.in_ok-lines.lines.items) (text_of lines.items) c.in_ok-edit.edit.splice
    (splice_of plan.kind plan.before plan.after) c.requires.ready.fits c.in_ok-edit.ensures.splice c.in_ok-lines.ensures.text c.in_ok-redo.ensures.ok)
