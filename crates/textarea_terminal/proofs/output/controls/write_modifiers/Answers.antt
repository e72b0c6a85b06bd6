use Rattle.std.proofs.Common.{◌<◌, arith}
use Rattle.textarea_terminal.proofs.PenLemmas.{added-next, added-count-next}
use Rattle.textarea_terminal.proofs.output.controls.write_modifiers.Goals as goal

pub loop-number-preserved : goal.loop-number-preserved
loop-number-preserved c =
    let below : c.loop-number.number-index < 9 = omega arith in (
      added-next c.args.modifier _ _ _ c.loop-number.number-index below c.in_ok-count.ensures.wrote c.loop-number.invariant.0,
      omega (arith, added-count-next c.args.modifier c.loop-number.number-index below, c.in_ok-count.ensures.count, c.loop-number.invariant.1),
      omega (arith, c.in_ok-count.ensures.bound, c.loop-number.invariant.2),
    )
