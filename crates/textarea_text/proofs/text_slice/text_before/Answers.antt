use Rattle.std.proofs.Common.{arith, subst, sym}
use Rattle.textarea_text.proofs.Prelude.{common_steps, sub-zero}
use Rattle.std.specs.Str.{IsCharBoundary}
use Rattle.textarea_text.proofs.Columns.{IsCharBoundary-column, chars-take}
use Rattle.textarea_text.proofs.text_slice.text_before.Goals as goal

pub range-requires-clause-end_boundary : goal.range-requires-clause-end_boundary
range-requires-clause-end_boundary c =
    subst (IsCharBoundary c.args.line.now) (sym c.byte_offset.ensures) (IsCharBoundary-column c.args.line.now c.args.column c.utf8.line)

pub returns : goal.returns
returns c =
    grind (arith, common_steps, chars-take, sub-zero c.byte_offset.result)
