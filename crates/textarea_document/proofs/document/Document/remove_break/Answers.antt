use Rattle.std.proofs.Common.{◌≡◌, ◌∙◌, ◌-◌, ◌+◌, ◌<◌, ap, arith, length, refl}
use Rattle.textarea_document.specs.Prelude.{lines, Place, break_removal}
use Rattle.textarea_document.proofs.SymbolAfters.{break_removal_fits}
use Rattle.textarea_document.proofs.document.Document.remove_break.Goals as goal
use Rattle.textarea_document.proofs.document.Document.remove_break.Goals.{After-between-edit}

row_is : (c : After-between-edit) → c.cursor-row.result.0 ≡ c.args.self.now.cursor.0
row_is c = ap (λ (p : Place). p.0) c.cursor-row.ensures.value

-- a line follows the one whose break is removed
within : (c : After-between-edit) → c.args.self.now.cursor.0 - 1 + 1 < length (lines c.args.self.now.text)
within c = omega (arith, c.cursor-row.ensures.place.0, row_is c, c.if-row-eq0.false)

-- the splice of the edit is the break's removal
removes : (c : After-between-edit) → c.between-edit.result.splice ≡ break_removal c.args.self.now.text (c.args.self.now.cursor.0 - 1)
removes c = c.between-edit.ensures.splice ∙ rw (c.line_end-start.ensures.value, c.lines.ensures.lines, c.cursor-row.ensures.value) refl

pub edit-requires-clause-fits : goal.edit-requires-clause-fits
edit-requires-clause-fits c =
    let made = (goal.at.edit-requires-clause-fits c).After-between-edit in
    rw (removes made) (break_removal_fits c.args.self.now.text (c.args.self.now.cursor.0 - 1) (within made))
