use Rattle.std.proofs.Common.{rules}
use Rattle.textarea_screen.proofs.BufferLemmas.{place_in-below}
use Rattle.textarea_terminal.proofs.output.area.caret_in.Goals as goal

pub returns-then-contains-clause-bound : goal.returns-then-contains-clause-bound
returns-then-contains-clause-bound c =
    let below = place_in-below c.args.area c.in_ok-position.position.x c.in_ok-position.position.y (search rules) in
    rw (c.from-row.ensures, c.from.ensures, c.from-then-contains.ensures) below
