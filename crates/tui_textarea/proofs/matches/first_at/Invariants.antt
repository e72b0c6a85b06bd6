use Rattle.std.proofs.Common.{◌≡◌, drop}
use Rattle.std.specs.Prelude.{find}
use Rattle.tui_textarea.specs.WholeMatches.{begins_at}
use Rattle.tui_textarea.proofs.matches.first_at.Given as goal

abbrev pub invariant-loop-found : goal.invariant-loop-found
invariant-loop-found l = find (begins_at l.column) (drop l.found-index l.matches) ≡ find (begins_at l.column) l.matches
