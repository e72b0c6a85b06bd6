use Rattle.std.proofs.Common.{arith, subst, sym}
use Rattle.textarea_text.proofs.Prelude.{common_steps, sub-zero}
use Rattle.std.specs.Str.{IsCharBoundary}
use Rattle.textarea_text.proofs.Columns.{IsCharBoundary-column}
use Rattle.textarea_text.proofs.Befores.{back_some, back_is, some_before, last_before}
use Rattle.textarea_text.proofs.rows.character_before.Goals as goal

pub range-requires-clause-end_boundary : goal.range-requires-clause-end_boundary
range-requires-clause-end_boundary c =
    subst (IsCharBoundary c.args.line.now) (sym c.requires.offset) (IsCharBoundary-column c.args.line.now c.args.column c.utf8.line)

pub unwrap-requires : goal.unwrap-requires
unwrap-requires c =
    grind (arith, common_steps, back_some, some_before, sub-zero c.args.offset)

pub returns : goal.returns
returns c =
    grind (arith, common_steps, last_before, sub-zero c.args.offset, back_is _ _ _ c.next_back.result c.unwrap.result c.unwrap.ensures c.next_back.ensures.steps)
