use Rattle.std.proofs.lemmas.Grind.{common_steps}
use Rattle.std.proofs.Common.{ap, arith, length}
use Rattle.std.proofs.lemmas.Result.{on_ok_weaker}
use Rattle.textarea_text.specs.Text.{lines}
use Rattle.textarea_lines.specs.TextLayout.{TextAndLayout}
use Rattle.textarea_lines.proofs.Stores.{count_stored}
use Rattle.textarea_lines.proofs.Changes.{made}
use Rattle.textarea_lines.proofs.text_layout.TextLayout.apply_by_lines.Goals as goal

pub replace-requires-clause-within : goal.replace-requires-clause-within
replace-requires-clause-within c =
    omega (arith, c.in_ok-replacement.ensures.within, ap (λ (s : TextAndLayout). length (lines s.text)) c.self.view_is, count_stored c.self.inside.lines.items c.self.invariant.contents.stored.some, ap length c.as_slice.ensures.value)

pub replace-requires-clause-size : goal.replace-requires-clause-size
replace-requires-clause-size c = grind (arith, common_steps, made)

pub returns-clause-ok : goal.returns-clause-ok
returns-clause-ok c = grind (arith, common_steps, on_ok_weaker, made)
