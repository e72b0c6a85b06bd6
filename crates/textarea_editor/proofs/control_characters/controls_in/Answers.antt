use Rattle.std.proofs.Common.{ap, arith}
use Rattle.std.proofs.lemmas.Grind.{common_steps}
use Rattle.std.proofs.lemmas.List.Sums.{count_by-le-length}
use Rattle.std.specs.List.{count_by}
use Rattle.textarea_editor.specs.ControlCharacters.{is_control}
use Rattle.textarea_editor.proofs.ControlCounts.{controls-parts}
use Rattle.textarea_editor.proofs.control_characters.controls_in.Goals as goal

pub counting-init : goal.counting-init
counting-init c = omega (arith, ap (count_by is_control) c.as_bytes-rest.ensures.value)

pub overflow_add-count : goal.overflow_add-count
overflow_add-count c =
    grind (arith, common_steps, count_by-le-length is_control c.args.line.now, controls-parts)

pub counting-smaller : goal.counting-smaller
counting-smaller c = omega (arith, c.split_at.ensures.back_len, c.counting-test.true)

pub counting-preserved : goal.counting-preserved
counting-preserved c =
    grind (arith, common_steps, controls-parts c.counting.rest.now c.split_at.result.0.now c.split_at.result.1.now 192 c.split_at.ensures.front c.split_at.ensures.back)

pub overflow_add-result : goal.overflow_add-result
overflow_add-result c = omega (arith, c.counting.invariant, c.count_of_controls-last.ensures, c.from.ensures, count_by-le-length is_control c.args.line.now)

pub returns : goal.returns
returns c = omega (arith, c.counting.invariant, c.count_of_controls-last.ensures, c.from.ensures)
