use Rattle.std.proofs.Common.{◌+◌, ◌∙◌, ap, arith, refl, sym}
use Rattle.std.proofs.lemmas.Grind.{common_steps}
use Rattle.std.proofs.lemmas.List.{take_all}
use Rattle.std.specs.List.{count_by}
use Rattle.textarea_editor.specs.ControlCharacters.{is_control}
use Rattle.textarea_editor.proofs.ControlCounts.{controls-more, controls-take-le}
use Rattle.textarea_editor.proofs.control_characters.count_of_controls.Goals as goal

pub loop-byte-init : goal.loop-byte-init
loop-byte-init c = refl

pub overflow_add-count : goal.overflow_add-count
overflow_add-count c =
    grind (arith, common_steps, controls-take-le, controls-more)

pub loop-byte-preserved : goal.loop-byte-preserved
loop-byte-preserved c =
    ap (λ k. k + c.from-count.result) c.loop-byte.invariant
    ∙ sym (controls-more c.args.bytes.now c.loop-byte.byte-index c.from-count.result c.is_control.result c.loop-byte-test.true c.is_control.ensures c.from-count.ensures)

pub returns : goal.returns
returns c = c.loop-byte.invariant ∙ ap (count_by is_control) (take_all c.loop-byte.byte-index c.args.bytes.now (omega (arith, c.loop-byte-test.false)))
