use Rattle.std.proofs.Common.{arith, refl}
use Rattle.textarea_terminal.specs.Control.Control.{MoveTo}
use Rattle.textarea_terminal.proofs.ControlLemmas.{Wrote-one}
use Rattle.textarea_terminal.proofs.PaintSpots.{move-to-spot}
use Rattle.textarea_terminal.proofs.ScreenMoves.{not-there}
use Rattle.textarea_terminal.proofs.output.brush.move_to.Goals as goal

pub returns-in_ok-write_move : goal.returns-in_ok-write_move
returns-in_ok-write_move c =
    Wrote-one (MoveTo c.args.spot.row c.args.spot.column) c.in_ok-write_move.ensures (
      refl,
      λ terminal at columns modes index. move-to-spot terminal c.args.columns c.args.spot c.requires.columns.0 c.requires.spot columns modes index,
      λ there. absurd (not-there c.args.at c.args.spot.index c.ne.result c.ne.ensures c.if-ne.true there),
      omega arith,
      refl,
    )
