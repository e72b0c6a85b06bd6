use Rattle.std.proofs.lemmas.Grind.{common_steps}
use Rattle.std.proofs.Common.{arith}
use Rattle.textarea_highlight.proofs.DisplayLemmas.{tab_displayed}
use Rattle.textarea_highlight.proofs.highlight.display.push_display.Goals as goal

pub returns-in_ok-push_str : goal.returns-in_ok-push_str
returns-in_ok-push_str c = grind (arith, common_steps, tab_displayed c.args.tab_len c.args.column c.args.next c.args.c c.if-c-eq9.true c.requires.next)
