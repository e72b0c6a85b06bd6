use Rattle.std.proofs.Common.{◌∙◌, ap, arith, refl}
use Rattle.textarea_text.proofs.Prelude.{common_steps, nil_from_length, chars-nil, chars_past_char, IsUtf8-past_char}
use Rattle.textarea_text.specs.Prelude.{unwrap_or, chars_rest}
use Rattle.textarea_text.proofs.TabLemmas.{width_of_done, width_of_more}
use Rattle.textarea_text.proofs.tab.spaces_to_stop.Goals as goal

pub loop-c-preserved : goal.loop-c-preserved
loop-c-preserved c =
    let was = c.loop-c.invariant in
    let step = c.in-Some.ensures.steps.0 in
    record {
      text = IsUtf8-past_char _ _ c.in-Some.c was.text step;
      left = width_of_more c.args.tab_length c.loop-c.after_stop _ c.unwrap_or.result c.in-Some.c _ _ _ was.left (chars_past_char _ _ c.in-Some.c was.text step)
          (c.unwrap_or.ensures ∙ ap (λ o. unwrap_or o 0) c.width.ensures.value) refl;
      below = omega arith;
    }

pub returns : goal.returns
returns c =
    grind (arith, common_steps, nil_from_length (chars_rest c.loop-c.c-iterator) c.in-None.ensures.steps.0.0, width_of_done, chars-nil)
