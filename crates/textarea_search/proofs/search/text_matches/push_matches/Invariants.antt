use Rattle.std.proofs.Common.{◌≡◌, ◌++◌, map, drop}
use Rattle.textarea_search.specs.TextMatches.{text_match}
use Rattle.textarea_search.proofs.search.text_matches.push_matches.Given as goal

abbrev pub invariant-loop-pair : goal.invariant-loop-pair
invariant-loop-pair l =
    l.matches.items ++ map (text_match l.row l.before) (drop l.pair-index l.pairs) ≡ l.initial.matches.items ++ map (text_match l.row l.before) l.pairs
