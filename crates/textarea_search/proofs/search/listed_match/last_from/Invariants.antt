use Rattle.std.proofs.Common.{◌≡◌, ◌+◌, ◌-◌, IfSome, length, option_map, reverse}
use Rattle.std.specs.List.{find}
use Rattle.std.specs.Option.{option_or}
use Rattle.regex.specs.Strings.{matcher_pattern}
use Rattle.textarea_search.specs.ListedMatches.{IsMatchIn, after_match}
use Rattle.textarea_search.specs.Spans.{columns_after, columns_in}
use Rattle.textarea_search.specs.Starts.{is_past}
use Rattle.textarea_search.specs.declared.search.listed_match.ListedMatch.{ListedMatch}
use Rattle.textarea_search.proofs.search.listed_match.last_from.Given as goal

abbrev pub invariant-loop-found : goal.invariant-loop-found
invariant-loop-found l =
    let tree = matcher_pattern l.fn.matcher in
    (matcher_pattern l.matcher ≡ tree)
    × IfSome l.last (IsMatchIn l.line)
    × (option_or (find (λ start. is_past start l.at_column l.column) (reverse (columns_after tree l.line (after_match l.last)))) (option_map (λ (known : ListedMatch). known.column) l.last)
    ≡ find (λ start. is_past start l.at_column l.column) (reverse (columns_in tree l.line)))

abbrev pub decreases-loop-found : goal.decreases-loop-found
decreases-loop-found l = length l.line + 1 - after_match l.last
