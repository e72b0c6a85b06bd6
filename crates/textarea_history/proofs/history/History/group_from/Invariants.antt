use Rattle.std.proofs.Common.{◌≡◌, ◌≤◌, ◌+◌, ◌-◌, drop, map}
use Rattle.textarea_history.specs.Prelude.{grouped_first, grouped_in}
use Rattle.textarea_history.proofs.history.History.group_from.Given as goal

abbrev pub invariant-loop-count : goal.invariant-loop-count
invariant-loop-count l =
    let marks = map grouped_in l.self-inside.items.items in
    (1 ≤ l.count) × (grouped_first (drop (l.start + 1) marks) ≡ l.count - 1 + grouped_first (drop (l.start + l.count) marks))

abbrev pub decreases-loop-count : goal.decreases-loop-count
decreases-loop-count l = l.self-inside.items.len - l.start - l.count
