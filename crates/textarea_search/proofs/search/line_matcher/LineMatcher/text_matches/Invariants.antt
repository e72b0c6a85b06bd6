use Rattle.std.proofs.Common.{◌≡◌, ◌≤◌, ◌+◌, ◌++◌, map, drop, string_bytes}
use Rattle.textarea_search.specs.ColumnPairs.{match_column_pairs}
use Rattle.textarea_search.specs.TextMatches.{matches_from}
use Rattle.textarea_text.specs.Size.{size_of}
use Rattle.textarea_util.specs.Limit.{size_limit}
use Rattle.textarea_search.proofs.search.line_matcher.LineMatcher.text_matches.Given as goal

abbrev pub invariant-loop-index : goal.invariant-loop-index
invariant-loop-index l =
    (l.self ≡ l.fn.self)
    × (l.before + size_of (drop l.index l.lines) ≤ size_limit)
    × (l.matches.items ++ matches_from (match_column_pairs l.fn.self) (l.first_row + l.index) l.before (map string_bytes (drop l.index l.lines))
    ≡ matches_from (match_column_pairs l.fn.self) l.first_row 0 (map string_bytes l.lines))
