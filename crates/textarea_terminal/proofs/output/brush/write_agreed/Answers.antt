use Rattle.std.proofs.Common.{◌≡◌, ◌+◌, arith, ap, ◌∙◌}
use Rattle.textarea_screen.specs.Cell.{cell_view}
use Rattle.textarea_terminal.specs.PaintCells.{cluster_columns}
use Rattle.textarea_terminal.specs.Screen.{cursor_after}
use Rattle.textarea_terminal.proofs.PaintSpots.{begins-room}
use Rattle.textarea_terminal.proofs.PartedBytes.{at-agreed, Wrote-agreed}
use Rattle.textarea_terminal.proofs.output.brush.write_agreed.Goals as goal

pub cursor_after-at-requires-clause-width : goal.cursor_after-at-requires-clause-width
cursor_after-at-requires-clause-width c =
    let room = begins-room c.args.columns c.args.spot (cell_view c.args.cell.now) c.requires.columns.0 c.requires.spot c.requires.begins in
    let width : c.cluster_columns.result ≡ cluster_columns (cell_view c.args.cell.now).symbol = c.cluster_columns.ensures.value ∙ ap cluster_columns c.symbol-symbol.ensures in
    (omega (arith, room.0, width), omega (arith, room.1, width), c.requires.columns.1)

pub returns-clause-at : goal.returns-clause-at
returns-clause-at c =
    let width : c.cluster_columns.result ≡ cluster_columns (cell_view c.args.cell.now).symbol = c.cluster_columns.ensures.value ∙ ap cluster_columns c.symbol-symbol.ensures in
    c.cursor_after-at.ensures ∙ ap (λ n. cursor_after c.args.columns (c.args.spot.index + n)) width
    ∙ at-agreed c.args.columns c.args.spot.index (cell_view c.args.cell.now) c.requires.agreed

pub returns-clause-wrote : goal.returns-clause-wrote
returns-clause-wrote c =
    Wrote-agreed c.args.columns c.args.spot.index (cell_view c.args.cell.now) c.symbol-symbol.result.now c.requires.begins c.requires.agreed c.symbol-symbol.ensures c.in_ok-write_symbol.ensures
