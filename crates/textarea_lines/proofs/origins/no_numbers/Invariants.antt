use Rattle.std.proofs.Common.{◌≡◌, None, replicate}
use Rattle.textarea_lines.proofs.origins.no_numbers.Given as goal

abbrev pub invariant-loop : goal.invariant-loop
invariant-loop l = l.new.items ≡ replicate l.counter None
