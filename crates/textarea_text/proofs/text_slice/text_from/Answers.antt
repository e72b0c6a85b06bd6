use Rattle.std.proofs.Common.{arith, subst, sym}
use Rattle.std.proofs.lemmas.Grind.{common_steps}
use Rattle.std.specs.Str.{IsCharBoundary}
use Rattle.textarea_text.proofs.Columns.{IsCharBoundary-column, chars-drop}
use Rattle.textarea_text.proofs.text_slice.text_from.Goals as goal

pub range_from-requires : goal.range_from-requires
range_from-requires c =
    λ _. subst (IsCharBoundary c.args.line.now) (sym c.offset_within.ensures) (IsCharBoundary-column c.args.line.now c.args.column c.utf8.line)

pub returns : goal.returns
returns c =
    grind (arith, common_steps, chars-drop)
