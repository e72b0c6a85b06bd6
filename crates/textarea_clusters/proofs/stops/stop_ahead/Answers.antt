use Rattle.std.proofs.Common.{◌≡◌, ◌-◌, ap, arith, length}
use Rattle.textarea_text.specs.Place.{line_of}
use Rattle.textarea_text.specs.Text.{lines_of}
use Rattle.textarea_clusters.proofs.StopLemmas.{first_stop_is}
use Rattle.textarea_clusters.proofs.stops.stop_ahead.Goals as goal

pub returns-clause-value : goal.returns-clause-value
returns-clause-value c =
    let row = c.args.place.0 in
    let column = c.args.place.1 in
    let line = line_of (lines_of c.args.lines.now) row in
    let found = c.loop-stop.invariant in
    let at : c.loop-stop.after ≡ c.loop-stop.stop = omega (arith, found.0, c.loop-stop-test.false) in
    ap (λ n. (row, n)) (
    first_stop_is c.args.ranges.now line row column (length line - column) c.loop-stop.stop found.1 (omega (arith, found.2, at, c.requires.place.1)) (found.3 at)
    (λ k from less. found.4 k from (omega (arith, less, at)))
    )
