use Rattle.std.proofs.Common.{◌≡◌, ◌≤◌, length, map, take, string_bytes}
use Rattle.regex.specs.Strings.{matcher_pattern}
use Rattle.textarea_text.specs.Prelude.{size_of}
use Rattle.textarea_search.specs.Spans.{columns_in}
use Rattle.textarea_search.specs.Starts.{starts_from}
use Rattle.textarea_search.proofs.search.counts.count_in_lines.Given as goal

abbrev pub invariant-loop-line : goal.invariant-loop-line
invariant-loop-line l =
    (matcher_pattern l.matcher ≡ matcher_pattern l.fn.matcher)
    × (l.count ≡ length (starts_from (columns_in (matcher_pattern l.fn.matcher)) 0 (take l.line-index (map string_bytes l.lines))))
    × (l.count ≤ size_of (take l.line-index l.lines))
