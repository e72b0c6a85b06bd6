use Rattle.std.proofs.Common.{◌∙◌, ap}
use Rattle.std.specs.List.{find}
use Rattle.tui_textarea.specs.WholeMatches.{begins_at, unit_matches}
use Rattle.tui_textarea.proofs.matches.match_at.Goals as goal

pub returns-clause-found : goal.returns-clause-found
returns-clause-found c =
    let place = c.args.place in
    c.first_at.ensures
    ∙ ap (find (begins_at place.1)) (c.as_slice.ensures.value ∙ c.in_ok-found.ensures.found ∙ ap (unit_matches c.args.unit c.args.ranges.now c.args.search.now place.0) c.one_line.ensures.line)
