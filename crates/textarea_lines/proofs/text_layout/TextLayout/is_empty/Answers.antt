use Rattle.std.proofs.lemmas.Grind.{common_steps}
use Rattle.std.proofs.Common.{arith, eq-eqb}
use Rattle.std.proofs.lemmas.Bool.{eqb-true}
use Rattle.textarea_text.proofs.EmptyTexts.{empty_text, text_of-many}
use Rattle.textarea_lines.proofs.text_layout.TextLayout.is_empty.Goals as goal

pub returns-then-len-eq1 : goal.returns-then-len-eq1
returns-then-len-eq1 c = grind (arith, common_steps, empty_text, eqb-true, eq-eqb)

pub returns-else-len-eq1 : goal.returns-else-len-eq1
returns-else-len-eq1 c = grind (arith, common_steps, eqb-true, text_of-many)
