use Rattle.std.proofs.Common.{◌-◌, ◌<◌, ◌≤◌, length, get_or}
use Rattle.textarea_blocks.proofs.blocks.numbers.Numbers.last_at_most.Given as goal

-- the block that is looked for is from `low` on and before `high`
abbrev pub invariant-halving : goal.invariant-halving
invariant-halving l =
    (l.low < l.high) × (l.high ≤ length l.self.numbers) × (get_or l.self.numbers l.low 0 ≤ l.number) × (l.high < length l.self.numbers → l.number < get_or l.self.numbers l.high 0)

abbrev pub decreases-halving : goal.decreases-halving
decreases-halving l = l.high - l.low
