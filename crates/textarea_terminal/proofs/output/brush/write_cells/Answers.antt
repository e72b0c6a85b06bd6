use Rattle.std.proofs.Common.{◌≡◌, ◌+◌, length, map, drop, sym, ◌∙◌, arith}
use Rattle.std.proofs.lemmas.List.{length-map}
use Rattle.textarea_screen.specs.Cell.{cell_view}
use Rattle.textarea_terminal.proofs.ControlLemmas.{Wrote-none, Wrote-then, Wrote-as}
use Rattle.textarea_terminal.specs.Paint.{Repaints}
use Rattle.textarea_terminal.proofs.PaintSteps.{Split-at, Reaches, Reaches-start, Reaches-end, Reaches-step, begins-at}
use Rattle.textarea_terminal.proofs.output.brush.write_cells.Goals as goal

pub write_change-requires-clause-begins : goal.write_change-requires-clause-begins
write_change-requires-clause-begins c =
    rw c.loop-index.invariant.1
    (begins-at c.args.columns c.loop-index.index c.args.new.now c.index-new-index.result c.index-new-index.is (omega arith) c.requires.new_whole)

pub loop-index-init : goal.loop-index-init
loop-index-init c =
    let olds = map cell_view c.args.old.now in
    let news = map cell_view c.args.new.now in
    let long : length olds ≡ length news = length-map c.args.old.now cell_view ∙ c.requires.length ∙ sym (length-map c.args.new.now cell_view) in (
      Wrote-none (Reaches-start c.args.start c.args.columns olds news c.requires.old_whole c.requires.new_whole long),
      c.first-spot.ensures.index,
      c.first-spot.ensures.is,
    )

pub loop-index-preserved : goal.loop-index-preserved
loop-index-preserved c =
    let olds = map cell_view c.args.old.now in
    let old = cell_view c.index-old-index.result in
    let os = map cell_view (drop (c.loop-index.index + 1) c.args.old.now) in
    let old_at = Split-at c.args.old.now c.loop-index.index c.index-old-index.result c.index-old-index.is (omega (arith, c.requires.length)) in
    let step = rw c.loop-index.invariant.1 at (c.in_ok-write_change.ensures old c.is_alike-is_printed.ensures) in (
      Wrote-then (Reaches c.args.start c.write_change.new.brush c.args.columns (c.loop-index.index + 1) olds (map cell_view c.args.new.now))
          c.loop-index.invariant.0 step
          (λ xs ys reaches change.
          Reaches-step c.args.start c.loop-index.brush c.write_change.new.brush c.args.columns c.loop-index.index olds old os c.args.new.now
          c.index-new-index.result xs ys old_at c.index-new-index.is (length-map c.args.old.now cell_view ∙ c.requires.length) (omega arith) c.requires.old_whole c.requires.new_whole change reaches),
      omega (arith, c.next-spot.ensures.index, c.loop-index.invariant.1),
      c.next-spot.ensures.is,
    )

pub returns : goal.returns
returns c =
    let olds = map cell_view c.args.old.now in
    let news = map cell_view c.args.new.now in
    let long : length olds ≡ length news = length-map c.args.old.now cell_view ∙ c.requires.length ∙ sym (length-map c.args.new.now cell_view) in
    Wrote-as (Repaints c.args.columns olds news c.args.start c.loop-index.brush) c.loop-index.invariant.0
    (λ xs reaches.
    Reaches-end c.args.start c.loop-index.brush c.args.columns c.loop-index.index olds news xs (omega (arith, length-map c.args.new.now cell_view)) long reaches)
