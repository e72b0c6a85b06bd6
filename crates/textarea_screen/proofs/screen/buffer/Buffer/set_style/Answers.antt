use Rattle.std.proofs.lemmas.Grind.{common_steps}
use Rattle.std.proofs.Common.{◌≡◌, ◌+◌, cond, refl, ap, ◌∙◌, arith}
use Rattle.textarea_screen.specs.Cell.{styled}
use Rattle.textarea_screen.specs.Rect.{contains}
use Rattle.textarea_screen.proofs.BufferLemmas.{is_before_row, is_before_row-first, is_before_row-apart, is_before_row-next}
use Rattle.textarea_screen.proofs.ChangeLemmas.{Changes-none, Changes-inside, Changes-more}
use Rattle.textarea_screen.proofs.screen.buffer.Buffer.set_style.Goals as goal

pub loop-y-init : goal.loop-y-init
loop-y-init c = grind (arith, common_steps, Changes-none, is_before_row-first)

pub loop-y-preserved : goal.loop-y-preserved
loop-y-preserved c = grind (arith, common_steps, Changes-more, is_before_row, is_before_row-apart, is_before_row-next)

pub returns : goal.returns
returns c =
    let area = c.intersection-area.result in
    let bottom : c.loop-y.y ≡ area.y + area.height = omega arith in
    Changes-inside (λ x y cell. cond (contains c.args.area x y) (styled c.args.style cell) cell) c.loop-y.invariant
    (λ x y cell inside.
    ap (λ b. cond b (styled c.args.style cell) cell)
    (ap (λ row. is_before_row area row x y) bottom ∙ c.intersection-area.ensures x y ∙ rw inside refl))
