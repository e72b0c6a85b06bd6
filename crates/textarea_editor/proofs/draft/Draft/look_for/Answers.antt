use Rattle.std.proofs.Common.{true, [], ◌∷◌}
use Rattle.std.proofs.lemmas.Result.{on_err_weaker, on_ok_weaker}
use Rattle.textarea_calls.specs.declared.call.Call.TheVariants.{GoTo, SearchForward}
use Rattle.textarea_editor.proofs.Drafts.{fails_before, fails_then, makes_then, on_err}
use Rattle.textarea_editor.proofs.draft.Draft.look_for.Goals as goal
use Rattle.textarea_editor.specs.Patterns.{search_call}

pub returns-in_err-move_to-clause-err : goal.returns-in_err-move_to-clause-err
returns-in_err-move_to-clause-err c =
    on_err c.from_residual.result
    (fails_before c.args.self.now c.move_to.new.self (GoTo c.args.origin ∷ []) (search_call c.args.options c.args.text.now ∷ SearchForward true ∷ []) c.in_err-move_to.ensures.err)

pub returns-in_err-light-clause-err : goal.returns-in_err-light-clause-err
returns-in_err-light-clause-err c =
    on_err c.from_residual-in_err-light.result
    (fails_then c.args.self.now c.move_to.new.self c.light.new.self (GoTo c.args.origin ∷ []) (search_call c.args.options c.args.text.now ∷ SearchForward true ∷ []) c.in_ok-move_to.ensures.ok
    (fails_before c.move_to.new.self c.light.new.self (search_call c.args.options c.args.text.now ∷ []) (SearchForward true ∷ []) c.in_err-light.ensures.err))

pub returns-clause-ok : goal.returns-clause-ok
returns-clause-ok c =
    on_ok_weaker c.search.result
    (λ last. makes_then c.args.self.now c.move_to.new.self c.search.new.self (GoTo c.args.origin ∷ []) (search_call c.args.options c.args.text.now ∷ SearchForward true ∷ []) c.in_ok-move_to.ensures.ok
    (makes_then c.move_to.new.self c.light.new.self c.search.new.self (search_call c.args.options c.args.text.now ∷ []) (SearchForward true ∷ []) c.in_ok-light.ensures.ok last))
    c.search.ensures.ok

pub returns-clause-err : goal.returns-clause-err
returns-clause-err c =
    on_err_weaker c.search.result
    (λ last. fails_then c.args.self.now c.move_to.new.self c.search.new.self (GoTo c.args.origin ∷ []) (search_call c.args.options c.args.text.now ∷ SearchForward true ∷ []) c.in_ok-move_to.ensures.ok
    (fails_then c.move_to.new.self c.light.new.self c.search.new.self (search_call c.args.options c.args.text.now ∷ []) (SearchForward true ∷ []) c.in_ok-light.ensures.ok last))
    c.search.ensures.err
