use Rattle.std.proofs.Common.{◌≡◌, ◌-◌, false}
use Rattle.memchr.specs.Find.{Nowhere}
use Rattle.textarea_search.specs.BytePairs.{HasPair}
use Rattle.textarea_search.proofs.byte_pair.BytePair.is_in_runs.Given as goal

abbrev pub invariant-runs : goal.invariant-runs
invariant-runs l = l.found ≡ false → Nowhere (HasPair l.self l.line) 0 l.from × Nowhere (HasPair l.self l.line) l.last l.starts

abbrev pub decreases-runs : goal.decreases-runs
decreases-runs l = l.last - l.from
