use Rattle.std.proofs.Common.{◌+◌, ◌-◌, arith}
use Rattle.std.proofs.lemmas.Grind.{common_steps}
use Rattle.textarea_text.proofs.StartLemmas.{char_count-run, char_count-run-le}
use Rattle.textarea_text.proofs.rows.skipped_stretches.Goals as goal

pub skipping-init : goal.skipping-init
skipping-init c = (omega arith, omega arith)

pub overflow_sub-left : goal.overflow_sub-left
overflow_sub-left c =
    grind (arith, common_steps, char_count-run-le)

pub skipping-preserved : goal.skipping-preserved
skipping-preserved c = (
  omega arith,
  omega (
    arith,
    c.skipping.invariant.1,
    c.count_of_starts.ensures,
    c.from-left.ensures,
    char_count-run c.args.bytes.now c.skipping.at (c.skipping.at + c.args.stretch - c.skipping.at) (c.skipping.at + c.args.stretch) (omega arith),
    char_count-run-le c.args.bytes.now c.skipping.at (c.skipping.at + c.args.stretch - c.skipping.at),
  ),
)
