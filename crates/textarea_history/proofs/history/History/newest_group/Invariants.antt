use Rattle.std.proofs.Common.{◌≡◌, ◌≤◌, ◌+◌, ◌-◌, map}
use Rattle.textarea_history.specs.Prelude.{grouped_before, grouped_in}
use Rattle.textarea_history.proofs.history.History.newest_group.Given as goal

abbrev pub invariant-loop-count : goal.invariant-loop-count
invariant-loop-count l =
    let marks = map grouped_in l.self-inside.items.items in
    let index = l.self-inside.index in
    (1 ≤ l.count) × (grouped_before marks (index - 1) ≡ l.count - 1 + grouped_before marks (index - l.count))

abbrev pub decreases-loop-count : goal.decreases-loop-count
decreases-loop-count l = l.self-inside.index - l.count
