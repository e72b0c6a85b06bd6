use Rattle.std.proofs.Common.{◌≡◌, arith}
use Rattle.std.proofs.lemmas.List.Elements.{All-push}
use Rattle.textarea_screen.specs.Cell.{cell_view, fresh_cell}
use Rattle.textarea_screen.specs.declared.screen.cell.Cell.{Cell}
use Rattle.textarea_screen.proofs.BufferLemmas.{cell_at-fresh}
use Rattle.textarea_screen.proofs.screen.buffer.Buffer.empty.Goals as goal

pub loop-preserved : goal.loop-preserved
loop-preserved c = (
  omega (arith, c.in_ok-push.ensures.len, c.loop.invariant.0),
  rw c.in_ok-push.ensures.items (All-push (λ (cell : Cell). cell_view cell ≡ fresh_cell) c.loop.cells.items c.fresh.result c.loop.invariant.1 c.fresh.ensures),
)

pub returns-clause-cells : goal.returns-clause-cells
returns-clause-cells c =
    λ x y. cell_at-fresh _ x y (omega (arith, c.loop.invariant.0, c.loop.cells.ok.0)) c.loop.invariant.1
