use Rattle.textarea_screen.specs.Cell.{cell_view}
use Rattle.textarea_terminal.proofs.ScreenMoves.{Wrote-cell}
use Rattle.textarea_terminal.proofs.output.brush.write_cell.Goals as goal

pub returns-clause-wrote : goal.returns-clause-wrote
returns-clause-wrote c =
    Wrote-cell c.args.brush.now c.args.columns c.args.spot.index (cell_view c.args.cell.now) c.look_of.result c.look_of.ensures
    c.in_ok-begin_update.ensures c.in_ok-move_to.ensures c.in_ok-take_look.ensures.wrote c.in_ok-write_cluster.ensures.wrote
