use Rattle.std.proofs.Common.{◌∙◌, ℕ, List, [], ◌∷◌, subst}
use Rattle.std.proofs.lemmas.Result.{on_err_weaker, on_ok_weaker}
use Rattle.textarea_calls.specs.declared.call.Call.TheVariants.{InsertStr}
use Rattle.textarea_editor.proofs.Drafts.{fails_first, on_err}
use Rattle.textarea_editor.proofs.draft.Draft.break_line.Goals as goal
use Rattle.textarea_editor.specs.Draft.{FailsIn, Makes}
use Rattle.textarea_editor.specs.EventCalls.{break_calls}
use Rattle.textarea_editor.specs.Patterns.{borrowed}

pub returns-in_err-text-clause-err : goal.returns-in_err-text-clause-err
returns-in_err-text-clause-err c =
    on_err c.from_residual.result (fails_first c.args.self.now (break_calls c.args.self.now.area.document))

pub returns-clause-ok : goal.returns-clause-ok
returns-clause-ok c =
    on_ok_weaker c.make.result
    (λ made. subst (λ (p : List ℕ). Makes c.args.self.now (InsertStr (borrowed p) ∷ []) c.make.new.self) (c.as_str.ensures.value ∙ c.in_ok-text.ensures) made)
    c.make.ensures.ok

pub returns-clause-err : goal.returns-clause-err
returns-clause-err c =
    on_err_weaker c.make.result
    (λ ran. subst (λ (p : List ℕ). FailsIn c.args.self.now (InsertStr (borrowed p) ∷ []) c.make.new.self) (c.as_str.ensures.value ∙ c.in_ok-text.ensures) ran)
    c.make.ensures.err
