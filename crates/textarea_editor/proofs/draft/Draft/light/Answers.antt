use Rattle.std.proofs.Common.{[], ◌∷◌, subst}
use Rattle.std.proofs.lemmas.Result.{on_err_weaker, on_ok_weaker}
use Rattle.textarea_calls.specs.declared.call.Call.{Call}
use Rattle.textarea_editor.proofs.Searches.{lit_pattern, lit_text}
use Rattle.textarea_editor.proofs.draft.Draft.light.Goals as goal
use Rattle.textarea_editor.specs.Draft.{FailsIn, Makes}

pub returns-then-options-clause-ok : goal.returns-then-options-clause-ok
returns-then-options-clause-ok c =
    on_ok_weaker c.light_pattern.result
    (λ made. subst (λ (call : Call). Makes c.args.self.now (call ∷ []) c.light_pattern.new.self) (lit_pattern c.args.options c.args.text.now c.if-options.true) made)
    c.light_pattern.ensures.ok

pub returns-then-options-clause-err : goal.returns-then-options-clause-err
returns-then-options-clause-err c =
    on_err_weaker c.light_pattern.result
    (λ ran. subst (λ (call : Call). FailsIn c.args.self.now (call ∷ []) c.light_pattern.new.self) (lit_pattern c.args.options c.args.text.now c.if-options.true) ran)
    c.light_pattern.ensures.err

pub returns-else-options-clause-ok : goal.returns-else-options-clause-ok
returns-else-options-clause-ok c =
    on_ok_weaker c.make.result
    (λ made. subst (λ (call : Call). Makes c.args.self.now (call ∷ []) c.make.new.self) (lit_text c.args.options c.args.text.now c.if-options.false) made)
    c.make.ensures.ok

pub returns-else-options-clause-err : goal.returns-else-options-clause-err
returns-else-options-clause-err c =
    on_err_weaker c.make.result
    (λ ran. subst (λ (call : Call). FailsIn c.args.self.now (call ∷ []) c.make.new.self) (lit_text c.args.options c.args.text.now c.if-options.false) ran)
    c.make.ensures.err
