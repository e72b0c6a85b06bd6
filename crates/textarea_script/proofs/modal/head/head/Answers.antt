use Rattle.std.proofs.Common.{rules, ◌∙◌}
use Rattle.std.proofs.lemmas.List.{append_assoc}
use Rattle.std.proofs.lemmas.Result.{IfOk-weaker}
use Rattle.textarea_script.proofs.modal.head.head.Goals as goal

pub returns : goal.returns
returns c = IfOk-weaker c.format.result _ _ (λ text e. e ∙ search (rules, append_assoc)) c.format.ensures.ok
