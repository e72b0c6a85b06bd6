use Rattle.std.proofs.Common.{arith}
use Rattle.std.proofs.lemmas.Grind.{common_steps}
use Rattle.textarea_text.proofs.StringRows.{characters_of-pushed}
use Rattle.textarea_editor.proofs.shortened.push_all.Goals as goal

pub loop-c-preserved : goal.loop-c-preserved
loop-c-preserved c =
    let pushed = characters_of-pushed c.loop-c.text c.push.new.self _ c.in_ok-push.ensures.bytes in
    grind (arith, common_steps, pushed, c.loop-c.invariant)
