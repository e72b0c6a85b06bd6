use Rattle.std.proofs.Common.{◌≡◌}
use Rattle.textarea_lines.specs.AtOnce.{first_origins}
use Rattle.textarea_lines.proofs.origins.first_origins.Given as goal

abbrev pub invariant-loop-number : goal.invariant-loop-number
invariant-loop-number l = l.origins.items ≡ first_origins l.number
