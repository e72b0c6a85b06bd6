use Rattle.std.proofs.Common.{◌≡◌, ◌+◌, ◌-◌, ◌≤◌, ◌%◌, arith, true, false, ltb, leb, refl}
use Rattle.std.proofs.lemmas.Bool.Decides.{nat_tests}
use Rattle.textarea_terminal.proofs.PaintFill.{row-fits}
use Rattle.textarea_terminal.proofs.PaintSpots.{column-of, some-columns}
use Rattle.textarea_terminal.proofs.output.frame.can_show.Goals as goal

pub returns-then-columns-from : goal.returns-then-columns-from
returns-then-columns-from c =
    let some = some-columns c.args.spot.index c.args.area.height c.args.area.width c.requires.index in
    let column = column-of c.args.area.width c.args.spot some c.requires.spot in
    let past : leb (c.args.spot.index % c.args.area.width + c.args.columns) c.args.area.width ≡ false = grind (arith, nat_tests, column) in
    let positive : ltb 0 c.args.columns ≡ true = grind (arith, nat_tests) in
    rw (positive, past) refl

pub are_empty-requires : goal.are_empty-requires
are_empty-requires c =
    let some = some-columns c.args.spot.index c.args.area.height c.args.area.width c.requires.index in
    let column = column-of c.args.area.width c.args.spot some c.requires.spot in
    let fit : c.args.columns ≤ c.args.area.width - c.args.spot.index % c.args.area.width = omega (arith, column, c.from.ensures) in
    row-fits c.args.spot.index c.args.columns c.args.area.height c.args.area.width c.requires.index (omega arith) fit

pub returns : goal.returns
returns c =
    let some = some-columns c.args.spot.index c.args.area.height c.args.area.width c.requires.index in
    let column = column-of c.args.area.width c.args.spot some c.requires.spot in
    let fit : leb (c.args.spot.index % c.args.area.width + c.args.columns) c.args.area.width ≡ true = grind (arith, nat_tests, column, c.from.ensures) in
    let positive : ltb 0 c.args.columns ≡ true = grind (arith, nat_tests) in
    rw (positive, fit) c.are_empty.ensures
