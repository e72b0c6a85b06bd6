use Rattle.std.proofs.Common.{◌∙◌, Bool, [], ◌∷◌, ap, subst}
use Rattle.std.proofs.lemmas.Result.{on_err_weaker, on_ok_weaker}
use Rattle.textarea_editor.proofs.Drafts.{fails_before, fails_then, makes_then, on_err}
use Rattle.textarea_editor.proofs.draft.Draft.take_input.Goals as goal
use Rattle.textarea_editor.specs.Draft.{FailsIn, Makes}
use Rattle.textarea_editor.specs.Pages.{reaches_start, start_calls}
use Rattle.textarea_modal.specs.Table.{passed_on}
use Rattle.textarea_view.specs.Viewport.{ViewportState}

pub returns-in_err-input-clause-err : goal.returns-in_err-input-clause-err
returns-in_err-input-clause-err c =
    on_err c.from_residual.result
    (fails_before c.args.self.now c.input.new.self (passed_on c.args.input.now ∷ []) (start_calls (reaches_start c.args.self.now.area.drawing.viewport c.args.input.now)) c.in_err-input.ensures.err)

pub returns-clause-ok : goal.returns-clause-ok
returns-clause-ok c =
    let input = c.args.input.now in
    let viewport = c.args.self.now.area.drawing.viewport in
    let is = c.reaches_start-is_start.ensures ∙ ap (λ (v : ViewportState). reaches_start v input) c.viewport.ensures in
    on_ok_weaker c.go_on_to_start.result
    (λ later. makes_then c.args.self.now c.input.new.self c.go_on_to_start.new.self (passed_on input ∷ []) (start_calls (reaches_start viewport input)) c.in_ok-input.ensures.ok
    (subst (λ (b : Bool). Makes c.input.new.self (start_calls b) c.go_on_to_start.new.self) is later))
    c.go_on_to_start.ensures.ok

pub returns-clause-err : goal.returns-clause-err
returns-clause-err c =
    let input = c.args.input.now in
    let viewport = c.args.self.now.area.drawing.viewport in
    let is = c.reaches_start-is_start.ensures ∙ ap (λ (v : ViewportState). reaches_start v input) c.viewport.ensures in
    on_err_weaker c.go_on_to_start.result
    (λ later. fails_then c.args.self.now c.input.new.self c.go_on_to_start.new.self (passed_on input ∷ []) (start_calls (reaches_start viewport input)) c.in_ok-input.ensures.ok
    (subst (λ (b : Bool). FailsIn c.input.new.self (start_calls b) c.go_on_to_start.new.self) is later))
    c.go_on_to_start.ensures.err
