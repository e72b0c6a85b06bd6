use Rattle.std.proofs.lemmas.Grind.{common_steps}
use Rattle.std.proofs.Common.{◌≡◌, ◌∙◌, ap, arith}
use Rattle.std.proofs.lemmas.Bool.{eqb-true}
use Rattle.std.proofs.lemmas.Result.{IfOk-weaker}
use Rattle.std.proofs.Common.{sym, vec_len}
use Rattle.textarea_text.specs.Text.{text_of}
use Rattle.textarea_text.proofs.EmptyTexts.{text_of_empty}
use Rattle.textarea_lines.proofs.text_layout.TextLayout.new.Goals as goal
use Rattle.textarea_lines.proofs.text_layout.TextLayout.new.Goals.{then-is_empty+in_ok-push, else-is_empty}

same_text : (c : goal.After-wrap_lines) → text_of c.if-is_empty.lines.items ≡ text_of c.args.lines.items
same_text c = elim c.if-is_empty.branch [
  | then-is_empty+in_ok-push w ↦ ap (λ v. text_of v.items) w.lines-is
      ∙ text_of_empty w.push.new.self.items c.args.lines.items w.new.result w.in_ok-push.ensures.items (omega (arith, eqb-true (vec_len c.args.lines) 0 (sym c.is_empty.ensures ∙ w.if-is_empty.true), c.args.lines.ok.0)) w.new.ensures.bytes
  | else-is_empty w ↦ ap (λ v. text_of v.items) w.lines-is
]

pub returns : goal.returns
returns c = grind (arith, common_steps, IfOk-weaker, same_text c)
