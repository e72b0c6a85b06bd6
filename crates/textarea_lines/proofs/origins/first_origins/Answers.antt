use Rattle.std.proofs.Common.{Some, ◌∷◌, [], ◌++◌, ap, arith, sym, ◌∙◌}
use Rattle.std.proofs.lemmas.List.FromFn.{map-range_with_len_more}
use Rattle.textarea_lines.specs.TextLayout.{Origins}
use Rattle.textarea_lines.proofs.origins.first_origins.Goals as goal

pub loop-number-preserved : goal.loop-number-preserved
loop-number-preserved c =
    let number = c.loop-number.number in
    c.in_ok-push.ensures.items ∙ ap (λ (o : Origins). o ++ Some number ∷ []) c.loop-number.invariant ∙ sym (map-range_with_len_more Some 0 number number (omega arith))
