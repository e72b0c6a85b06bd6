use Rattle.std.proofs.Common.{◌≡◌, ◌++◌, map, drop}
use Rattle.tui_textarea.specs.WholeMatches.{indices_of}
use Rattle.tui_textarea.proofs.matches.indices_of.Given as goal

abbrev pub invariant-loop-found : goal.invariant-loop-found
invariant-loop-found l = l.indices.items ++ map indices_of (drop l.found-index l.matches) ≡ map indices_of l.matches
