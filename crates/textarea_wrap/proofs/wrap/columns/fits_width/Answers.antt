use Rattle.std.proofs.Common.{ap, ◌∙◌, arith, refl}
use Rattle.std.proofs.lemmas.Bool.{false≢true}
use Rattle.textarea_wrap.specs.Prelude.{chars, chars_rest}
use Rattle.textarea_wrap.proofs.VisibleLemmas.{left_next, left_none, left_past, past_visible}
use Rattle.textarea_wrap.proofs.ColumnLemmas.{end_column-after}
use Rattle.textarea_wrap.proofs.wrap.columns.fits_width.Goals as goal

pub range_from-requires : goal.range_from-requires
range_from-requires c = λ _.
    (past_visible c.args.text.now c.visible_count-visible.result c.utf8.text c.visible_count-visible.ensures.within c.visible_count-visible.ensures.visible).boundary

pub loop-c-init : goal.loop-c-init
loop-c-init c = (
  left_past _ _ _ _ _ _ _ c.utf8.text c.visible_count-visible.ensures (ap chars_rest c.into_iter-c-iterator.ensures.into_iter_gives ∙ c.chars-c-items.ensures.rest ∙ c.range_from.ensures.value) (omega arith),
  c.visible_count-visible.ensures.at_most,
)

pub returns-then-width-column : goal.returns-then-width-column
returns-then-width-column c =
    let made = c.column_after-column.ensures in
    let left = left_next _ _ _ _ _ _ _ c.in-Some.c c.loop-c.invariant.0 c.in-Some.ensures.steps.0 made.value made.after made.near in
    let wider = end_column-after c.args.tab_len c.column_after-column.result (chars (chars_rest c.next.new.self)) in
    (λ h. absurd (false≢true h), λ h. absurd (omega (arith, left.end, wider, c.if-width-column.true)))

pub loop-c-preserved : goal.loop-c-preserved
loop-c-preserved c =
    let made = c.column_after-column.ensures in
    (left_next _ _ _ _ _ _ _ c.in-Some.c c.loop-c.invariant.0 c.in-Some.ensures.steps.0 made.value made.after made.near, omega (arith, c.if-width-column.false))

pub returns : goal.returns
returns c = let whole = left_none _ _ _ _ _ c.loop-c.invariant.0 c.in-None.ensures.steps.0.0 in (λ _. omega (arith, whole, c.loop-c.invariant.1), λ _. refl)
