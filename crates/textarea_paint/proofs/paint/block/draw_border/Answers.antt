use Rattle.std.proofs.Math.Bool.{and-true}
use Rattle.std.proofs.Common.{◌≡◌, ◌+◌, cond, ◌&&◌, ap, ◌∙◌, arith}
use Rattle.textarea_screen.specs.Cell.{with_symbol}
use Rattle.textarea_screen.specs.Rect.{contains, is_in_row}
use Rattle.textarea_screen.proofs.ChangeLemmas.{Changes-inside, Changes-more}
use Rattle.textarea_screen.proofs.BufferLemmas.{is_before_row, is_before_row-apart, is_before_row-next}
use Rattle.textarea_paint.proofs.paint.block.draw_border.Goals as goal

pub loop-y-preserved : goal.loop-y-preserved
loop-y-preserved c =
    let area = c.intersection-area.result in
    let row = c.loop-y.y in
    Changes-more (with_symbol c.args.text.now c.args.style) (is_before_row area row) (is_in_row area row) (is_before_row area (row + 1)) c.loop-y.invariant c.in_ok-draw_border_row.ensures.ok
    (is_before_row-apart area row) (λ x y. is_before_row-next area row x y c.loop-y.auto.y c.loop-y-test.true)

pub returns-after-loop-y-clause-ok : goal.returns-after-loop-y-clause-ok
returns-after-loop-y-clause-ok c =
    let area = c.intersection-area.result in
    let bottom : c.loop-y.y ≡ area.y + area.height = omega arith in
    Changes-inside (λ x y cell. cond (c.args.is_drawn && contains c.args.area x y) (with_symbol c.args.text.now c.args.style cell) cell) c.loop-y.invariant
    (λ x y cell inside.
    ap (λ b. cond b (with_symbol c.args.text.now c.args.style cell) cell)
    (ap (λ row. is_before_row area row x y) bottom ∙ c.intersection-area.ensures x y
    ∙ rw (c.area.ensures, inside, c.if-is_drawn.true) (and-true (contains c.args.area x y))))
