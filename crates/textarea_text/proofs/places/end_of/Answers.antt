use Rattle.std.proofs.Common.{ap, arith}
use Rattle.textarea_text.proofs.Prelude.{common_steps, length-map}
use Rattle.textarea_text.specs.Prelude.{characters_of, Place}
use Rattle.textarea_text.proofs.Sizes.{length-le-size_of}
use Rattle.textarea_text.proofs.PlaceLemmas.{end_of_more, end_of_single, length-fragment_line}
use Rattle.textarea_text.proofs.places.end_of.Goals as goal

pub overflow_add-result : goal.overflow_add-result
overflow_add-result c =
    omega (arith, ap (λ (p : Place). p.1) c.line_end-last.ensures.value, length-fragment_line c.args.fragment_lines.now c.last_row.result (omega arith))

pub overflow_add-result-else-last-eq0 : goal.overflow_add-result-else-last-eq0
overflow_add-result-else-last-eq0 c =
    omega (arith, ap (λ (p : Place). p.0) c.line_end-last.ensures.value, length-le-size_of c.args.fragment_lines.now)

pub returns-then-last-eq0 : goal.returns-then-last-eq0
returns-then-last-eq0 c =
    grind (arith, common_steps, end_of_single, length-map c.args.fragment_lines.now characters_of)

pub returns-else-last-eq0 : goal.returns-else-last-eq0
returns-else-last-eq0 c =
    grind (arith, common_steps, end_of_more, length-map c.args.fragment_lines.now characters_of)
