use Rattle.std.proofs.Common.{◌∙◌, ℕ, List, [], ◌∷◌, subst}
use Rattle.std.proofs.lemmas.Result.{on_err_weaker, on_ok_weaker}
use Rattle.textarea_calls.specs.declared.call.Call.TheVariants.{SetSearchPattern}
use Rattle.textarea_editor.proofs.Drafts.{fails_first, on_err}
use Rattle.textarea_editor.proofs.draft.Draft.light_pattern.Goals as goal
use Rattle.textarea_editor.specs.Draft.{FailsIn, Makes}
use Rattle.textarea_editor.specs.Patterns.{borrowed, pattern_call}

pub returns-in_err-pattern-clause-err : goal.returns-in_err-pattern-clause-err
returns-in_err-pattern-clause-err c =
    on_err c.from_residual.result (fails_first c.args.self.now (pattern_call c.args.options c.args.text.now ∷ []))

pub returns-clause-ok : goal.returns-clause-ok
returns-clause-ok c =
    on_ok_weaker c.make.result
    (λ made. subst (λ (p : List ℕ). Makes c.args.self.now (SetSearchPattern (borrowed p) ∷ []) c.make.new.self) (c.as_str.ensures.value ∙ c.in_ok-pattern.ensures) made)
    c.make.ensures.ok

pub returns-clause-err : goal.returns-clause-err
returns-clause-err c =
    on_err_weaker c.make.result
    (λ ran. subst (λ (p : List ℕ). FailsIn c.args.self.now (SetSearchPattern (borrowed p) ∷ []) c.make.new.self) (c.as_str.ensures.value ∙ c.in_ok-pattern.ensures) ran)
    c.make.ensures.err
