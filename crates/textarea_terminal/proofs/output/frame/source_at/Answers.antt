use Rattle.std.proofs.Common.{ap, unwrap_or, Option}
use Rattle.textarea_screen.specs.Cell.{CellView, fresh_cell}
use Rattle.textarea_terminal.proofs.PaintSpots.{column-of, row-of, some-columns}
use Rattle.textarea_terminal.proofs.output.frame.source_at.Goals as goal

pub returns-in-Some : goal.returns-in-Some
returns-in-Some c =
    let some = some-columns c.args.spot.index c.args.area.height c.args.area.width c.requires.index in
    rw (
      c.look_of.ensures,
      c.symbol.ensures,
      column-of c.args.area.width c.args.spot some c.requires.spot,
      row-of c.args.area.width c.args.spot some c.requires.spot,
    ) (ap (λ (cell : Option CellView). unwrap_or cell fresh_cell) c.in-Some.ensures.value)

pub returns-in-None : goal.returns-in-None
returns-in-None c =
    let some = some-columns c.args.spot.index c.args.area.height c.args.area.width c.requires.index in
    rw (column-of c.args.area.width c.args.spot some c.requires.spot, row-of c.args.area.width c.args.spot some c.requires.spot)
    (ap (λ (cell : Option CellView). unwrap_or cell fresh_cell) c.in-None.ensures.value)
