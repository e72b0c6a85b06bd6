use Rattle.std.proofs.Common.{◌≡◌, ◌+◌, false}
use Rattle.memchr.specs.Find.{Nowhere}
use Rattle.textarea_search.specs.BytePairs.{HasPair}
use Rattle.textarea_search.proofs.byte_pair.BytePair.is_in_run.Given as goal

abbrev pub invariant-loop-k : goal.invariant-loop-k
invariant-loop-k l = l.found ≡ false → Nowhere (HasPair l.self l.line) l.from (l.from + l.k)
