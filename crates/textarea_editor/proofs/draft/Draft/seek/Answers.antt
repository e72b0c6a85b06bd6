use Rattle.std.proofs.Common.{[], ◌∷◌}
use Rattle.std.proofs.lemmas.Result.{on_err_weaker, on_ok_weaker}
use Rattle.textarea_editor.proofs.Drafts.{fails_before, fails_then, makes_then, on_err}
use Rattle.textarea_editor.proofs.draft.Draft.seek.Goals as goal
use Rattle.textarea_editor.specs.EventCalls.{find_calls}
use Rattle.textarea_editor.specs.Patterns.{search_call}

pub returns-in_err-light-clause-err : goal.returns-in_err-light-clause-err
returns-in_err-light-clause-err c =
    on_err c.from_residual.result
    (fails_before c.args.self.now c.light.new.self (search_call c.args.options c.args.text.now ∷ []) (find_calls c.args.is_forward) c.in_err-light.ensures.err)

pub returns-clause-ok : goal.returns-clause-ok
returns-clause-ok c =
    on_ok_weaker c.find.result
    (λ later. makes_then c.args.self.now c.light.new.self c.find.new.self (search_call c.args.options c.args.text.now ∷ []) (find_calls c.args.is_forward) c.in_ok-light.ensures.ok later)
    c.find.ensures.ok

pub returns-clause-err : goal.returns-clause-err
returns-clause-err c =
    on_err_weaker c.find.result
    (λ later. fails_then c.args.self.now c.light.new.self c.find.new.self (search_call c.args.options c.args.text.now ∷ []) (find_calls c.args.is_forward) c.in_ok-light.ensures.ok later)
    c.find.ensures.err
