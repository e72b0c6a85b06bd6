use Rattle.std.proofs.Common.{◌≡◌, ℕ, ◌+◌, ◌++◌, List, Option, Some, None, Bor, length, option_map}
use Rattle.std.specs.Prelude.{option_copied}
use Rattle.textarea_script_syntax.specs.Ranges.{ranges, ranges_after_space}
use Rattle.textarea_script_syntax.proofs.arguments.ranges.Given as goal

abbrev pub invariant-loop-rest : goal.invariant-loop-rest
invariant-loop-rest l = ranges l.fn.text ≡ option_map (λ more. l.ranges.items ++ more) (ranges_after_space (option_copied l.rest))

abbrev left : Option (Bor (List ℕ)) → ℕ
left None = 0
left (Some text) = length text.now + 1

abbrev pub decreases-loop-rest : goal.decreases-loop-rest
decreases-loop-rest l = left l.rest
