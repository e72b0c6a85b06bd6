use Rattle.std.proofs.Common.{ap, ◌∙◌, arith}
use Rattle.textarea_wrap.specs.Prelude.{chars_rest}
use Rattle.textarea_wrap.proofs.VisibleLemmas.{left_next, left_none, left_past, past_visible}
use Rattle.textarea_wrap.proofs.wrap.columns.column_after_text.Goals as goal

pub range_from-requires : goal.range_from-requires
range_from-requires c = λ _.
    (past_visible c.args.text.now c.visible_count-visible.result c.utf8.text c.visible_count-visible.ensures.within c.visible_count-visible.ensures.visible).boundary

pub loop-c-init : goal.loop-c-init
loop-c-init c =
    left_past _ _ _ _ _ _ _ c.utf8.text c.visible_count-visible.ensures (ap chars_rest c.into_iter-c-iterator.ensures.into_iter_gives ∙ c.chars-c-items.ensures.rest ∙ c.range_from.ensures.value) (omega arith)

pub loop-c-preserved : goal.loop-c-preserved
loop-c-preserved c =
    let made = c.column_after-end.ensures in
    left_next _ _ _ _ _ _ _ c.in-Some.c c.loop-c.invariant c.in-Some.ensures.steps.0 made.value made.after made.near

pub returns-clause-value : goal.returns-clause-value
returns-clause-value c = left_none _ _ _ _ _ c.loop-c.invariant c.in-None.ensures.steps.0.0
