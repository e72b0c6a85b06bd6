use Rattle.std.proofs.Common.{arith, ap, ◌∙◌, Some}
use Rattle.textarea_document.proofs.Steps.{previous_column, previous_line}
use Rattle.textarea_document.proofs.ends.previous_place.Goals as goal

pub returns-then-column-gt0-clause-value : goal.returns-then-column-gt0-clause-value
returns-then-column-gt0-clause-value c = previous_column c.args.lines.now c.args.place c.requires c.if-column-gt0.true

pub returns-clause-value : goal.returns-clause-value
returns-clause-value c =
    ap Some c.line_end.ensures.value ∙ previous_line c.args.lines.now c.args.place c.requires (omega arith) (omega arith)
