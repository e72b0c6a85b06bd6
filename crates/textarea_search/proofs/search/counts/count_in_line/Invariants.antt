use Rattle.std.proofs.Common.{◌≡◌, ◌+◌, ◌-◌, ◌≤◌, length}
use Rattle.regex.specs.Strings.{matcher_pattern}
use Rattle.textarea_search.specs.Spans.{spans_after}
use Rattle.textarea_search.proofs.search.counts.count_in_line.Given as goal

abbrev pub invariant-loop-found : goal.invariant-loop-found
invariant-loop-found l =
    (matcher_pattern l.matcher ≡ matcher_pattern l.fn.matcher)
    × (l.after ≤ length l.line + 1)
    × (l.count ≤ l.after)
    × (l.count + length (spans_after (matcher_pattern l.fn.matcher) l.line l.after) ≡ length (spans_after (matcher_pattern l.fn.matcher) l.line 0))

abbrev pub decreases-loop-found : goal.decreases-loop-found
decreases-loop-found l = length l.line + 1 - l.after
