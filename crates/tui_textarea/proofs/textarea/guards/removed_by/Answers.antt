use Rattle.std.proofs.Common.{◌∙◌, ap, arith}
use Rattle.std.proofs.lemmas.List.{take_all}
use Rattle.tui_textarea.specs.Fitting.{removed_by}
use Rattle.tui_textarea.proofs.Fitting.{removed_by-more}
use Rattle.tui_textarea.proofs.textarea.guards.removed_by.Goals as goal

pub loop-stretch-preserved : goal.loop-stretch-preserved
loop-stretch-preserved c = record {
  sum = omega (arith, c.saturating_sub.ensures, c.loop-stretch.invariant.sum, removed_by-more c.args.stretches.now c.loop-stretch.stretch-index (omega arith));
  bound = omega arith;
}

pub returns : goal.returns
returns c = c.loop-stretch.invariant.sum ∙ ap removed_by (take_all c.loop-stretch.stretch-index c.args.stretches.now (omega arith))
