use Rattle.std.proofs.Common.{◌≡◌, ◌+◌, ◌-◌, length, map, replicate, sym, ◌∙◌, arith}
use Rattle.std.proofs.lemmas.List.{length-map, length-replicate}
use Rattle.textarea_screen.specs.Cell.{cell_view, fresh_cell}
use Rattle.textarea_terminal.proofs.ControlLemmas.{Wrote-none, Wrote-then, Wrote-as}
use Rattle.textarea_terminal.specs.Paint.{Repaints}
use Rattle.textarea_terminal.proofs.PaintFill.{fresh-cells-whole}
use Rattle.textarea_terminal.proofs.PaintSteps.{Split-replicate, Reaches, Reaches-start, Reaches-end, Reaches-step, begins-at}
use Rattle.textarea_terminal.proofs.output.brush.write_all_cells.Goals as goal

pub write_change-requires-clause-begins : goal.write_change-requires-clause-begins
write_change-requires-clause-begins c =
    rw c.loop-index.invariant.1
    (begins-at c.args.columns c.loop-index.index c.args.new.now c.index-new-index.result c.index-new-index.is (omega arith) c.requires.whole)

pub loop-index-init : goal.loop-index-init
loop-index-init c =
    let count = length c.args.new.now in
    let olds = replicate count fresh_cell in
    let news = map cell_view c.args.new.now in
    let long : length olds ≡ length news = length-replicate count fresh_cell ∙ sym (length-map c.args.new.now cell_view) in (
      Wrote-none (Reaches-start c.args.start c.args.columns olds news (fresh-cells-whole c.args.columns count c.requires.some) c.requires.whole long),
      c.first-spot.ensures.index,
      c.first-spot.ensures.is,
    )

pub loop-index-preserved : goal.loop-index-preserved
loop-index-preserved c =
    let count = length c.args.new.now in
    let olds = replicate count fresh_cell in
    let os = replicate (count - (c.loop-index.index + 1)) fresh_cell in
    let old_at = Split-replicate count c.loop-index.index fresh_cell (omega arith) in
    let step = rw c.loop-index.invariant.1 at (c.in_ok-write_change.ensures fresh_cell c.is_fresh-is_printed.ensures) in (
      Wrote-then (Reaches c.args.start c.write_change.new.brush c.args.columns (c.loop-index.index + 1) olds (map cell_view c.args.new.now))
          c.loop-index.invariant.0 step
          (λ xs ys reaches change.
          Reaches-step c.args.start c.loop-index.brush c.write_change.new.brush c.args.columns c.loop-index.index olds fresh_cell os c.args.new.now
          c.index-new-index.result xs ys old_at c.index-new-index.is (length-replicate count fresh_cell) (omega arith) (fresh-cells-whole c.args.columns count c.requires.some) c.requires.whole change reaches),
      omega (arith, c.next-spot.ensures.index, c.loop-index.invariant.1),
      c.next-spot.ensures.is,
    )

pub returns : goal.returns
returns c =
    let count = length c.args.new.now in
    let olds = replicate count fresh_cell in
    let news = map cell_view c.args.new.now in
    let long : length olds ≡ length news = length-replicate count fresh_cell ∙ sym (length-map c.args.new.now cell_view) in
    Wrote-as (Repaints c.args.columns olds news c.args.start c.loop-index.brush) c.loop-index.invariant.0
    (λ xs reaches.
    Reaches-end c.args.start c.loop-index.brush c.args.columns c.loop-index.index olds news xs (omega (arith, length-map c.args.new.now cell_view)) long reaches)
