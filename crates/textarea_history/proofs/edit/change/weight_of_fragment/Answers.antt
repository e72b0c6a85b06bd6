use Rattle.std.proofs.Common.{arith}
use Rattle.textarea_history.proofs.Weights.{fragment_weight}
use Rattle.textarea_history.proofs.edit.change.weight_of_fragment.Goals as goal

pub returns-in-len1-up : goal.returns-in-len1-up
returns-in-len1-up c =
    omega (arith, c.size_of.ensures, c.len.ensures, c.saturating_add.ensures, fragment_weight c.args.fragment_lines.now c.first-item.result (omega (arith, c.in-len1-up.len_at_least)) c.first-item.is)
