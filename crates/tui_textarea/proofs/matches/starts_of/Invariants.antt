use Rattle.std.proofs.Common.{◌≡◌, ◌++◌, map, drop}
use Rattle.tui_textarea.specs.WholeMatches.{start_of_match}
use Rattle.tui_textarea.proofs.matches.starts_of.Given as goal

abbrev pub invariant-loop-found : goal.invariant-loop-found
invariant-loop-found l = l.starts.items ++ map start_of_match (drop l.found-index l.matches) ≡ map start_of_match l.matches
