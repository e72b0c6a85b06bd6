use Rattle.std.proofs.Common.{◌≡◌, ◌+◌, map, drop, string_bytes}
use Rattle.std.specs.List.{slice_get}
use Rattle.regex.specs.Strings.{matcher_pattern}
use Rattle.textarea_search.specs.Spans.{columns_in}
use Rattle.textarea_search.specs.Starts.{starts_from}
use Rattle.textarea_search.proofs.search.lines.first_start.Given as goal

abbrev pub invariant-loop-i : goal.invariant-loop-i
invariant-loop-i l =
    let columns = columns_in (matcher_pattern l.fn.matcher) in
    let texts = map string_bytes l.lines in
    (matcher_pattern l.matcher ≡ matcher_pattern l.fn.matcher)
    × (slice_get (starts_from columns l.first_row texts) 0 ≡ slice_get (starts_from columns (l.first_row + l.i) (drop l.i texts)) 0)
