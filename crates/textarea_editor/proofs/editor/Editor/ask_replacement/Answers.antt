use Rattle.std.proofs.Common.{◌∙◌, rules, subst, sym}
use Rattle.textarea_editor.proofs.Drafts.{fails_late, on_err}
use Rattle.textarea_editor.proofs.editor.Editor.ask_replacement.Goals as goal
use Rattle.textarea_editor.specs.Draft.{MakesSome}
use Rattle.textarea_editor.specs.EventCalls.{IsLookingFor}
use Rattle.textarea_editor.specs.declared.draft.Draft.{Draft}

pub returns : goal.returns
returns c =
    let old = c.args.self.now in
    let made = subst (λ (d : Draft). MakesSome (IsLookingFor old.controls.search old.controls.origin old.field) old.draft d)
    (sym (c.in_ok-fill_prompt.ensures.draft ∙ c.keep_searched.ensures.draft)) c.in_ok-look_for.ensures.step.ok in
    search (rules, made)

pub returns-in_err-fill_prompt : goal.returns-in_err-fill_prompt
returns-in_err-fill_prompt c =
    let old = c.args.self.now in
    let failed = on_err c.from_residual-in_err-fill_prompt.result
    (fails_late (IsLookingFor old.controls.search old.controls.origin old.field) old.draft c.fill_prompt.new.self.draft
    (subst (λ (d : Draft). MakesSome (IsLookingFor old.controls.search old.controls.origin old.field) old.draft d)
    (sym (c.in_err-fill_prompt.ensures.draft ∙ c.keep_searched.ensures.draft)) c.in_ok-look_for.ensures.step.ok)) in
    search (rules, failed)
