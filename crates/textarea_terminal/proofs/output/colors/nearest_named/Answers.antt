use Rattle.std.proofs.Common.{ℕ, sym, ap, ◌∙◌, arith}
use Rattle.textarea_terminal.specs.PaintColors.{distance_between, named_parts, least_distant, nearest_named}
use Rattle.textarea_terminal.specs.declared.output.colors.ColorParts.{ColorParts}
use Rattle.textarea_terminal.proofs.ColorLemmas.{least-first, least-nearer, least-same}
use Rattle.textarea_terminal.proofs.output.colors.nearest_named.Goals as goal
use Rattle.textarea_terminal.proofs.output.colors.nearest_named.Goals.{then-distance-least, else-distance-least}

pub loop-number-init : goal.loop-number-init
loop-number-init c = (
  sym (least-first (λ (number : ℕ). distance_between c.args.parts (named_parts number))),
  c.distance_between-least.ensures ∙ ap (λ (p : ColorParts). distance_between c.args.parts p) c.named_parts.ensures,
  omega arith,
)

pub loop-number-preserved : goal.loop-number-preserved
loop-number-preserved c =
    let distance = λ (number : ℕ). distance_between c.args.parts (named_parts number) in
    let new_is = c.distance_between-distance.ensures ∙ ap (λ (p : ColorParts). distance_between c.args.parts p) c.named_parts-in-loop-number.ensures in
    let was = c.loop-number.invariant in
    elim c.if-distance-least.branch [
      | then-distance-least w ↦ (
        w.nearest-is ∙ least-nearer distance c.loop-number.number c.loop-number.nearest c.loop-number.least c.distance_between-distance.result was.0 was.1 new_is w.if-distance-least.true,
        w.least-is ∙ new_is ∙ ap distance (sym w.nearest-is),
        omega (arith, w.nearest-is),
      )
      | else-distance-least w ↦ (
        w.nearest-is ∙ least-same distance c.loop-number.number c.loop-number.nearest c.loop-number.least c.distance_between-distance.result was.0 was.1 new_is (omega arith),
        w.least-is ∙ was.1 ∙ ap distance (sym w.nearest-is),
        omega (arith, w.nearest-is, was.2),
      )
    ]

pub returns : goal.returns
unfolding nearest_named
returns c =
    c.loop-number.invariant.0 ∙ ap (least_distant (λ (number : ℕ). distance_between c.args.parts (named_parts number))) (omega arith)
