use Rattle.textarea_screen.specs.Cell.{cell_view}
use Rattle.textarea_terminal.proofs.PartedBytes.{at-disputed, Wrote-disputed}
use Rattle.textarea_terminal.proofs.output.brush.write_disputed.Goals as goal

pub returns-clause-at : goal.returns-clause-at
returns-clause-at c = at-disputed c.args.columns c.args.spot.index (cell_view c.args.cell.now) c.requires.disputed

pub returns-clause-wrote : goal.returns-clause-wrote
returns-clause-wrote c =
    Wrote-disputed c.args.columns c.args.spot (cell_view c.args.cell.now) c.symbol.result.now c.requires.columns.0 c.requires.spot c.requires.begins c.requires.disputed c.symbol.ensures
    c.in_ok-write_apart.ensures
