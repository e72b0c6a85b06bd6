use Rattle.std.proofs.Common.{◌∙◌, ap, subst, sym}
use Rattle.std.proofs.Math.Bool.{or-false}
use Rattle.std.specs.List.{list_any}
use Rattle.textarea_calls.specs.Edits.{edits}
use Rattle.textarea_calls.specs.FlagRule.{may_change_text}
use Rattle.textarea_calls.specs.declared.action.Action.{Action}
use Rattle.textarea_modal.proofs.Edits.{step_edits}
use Rattle.textarea_modal.proofs.step.Reaction.edits.Goals as goal
use Rattle.textarea_modal.specs.Calls.{IsReaction}
use Rattle.textarea_modal.specs.Table.{Step}
use Rattle.textarea_modal.specs.declared.step.Reaction.{Reaction}

pub returns-in-Step : goal.returns-in-Step
returns-in-Step c = λ mode input is.
    let made = subst (λ (r : Reaction). IsReaction mode input r) c.in-Step.is is in
    c.any_edits.ensures ∙ step_edits c.in-Step.step.motion c.in-Step.step.calls.now ∙ ap (λ (s : Step). list_any edits s.calls) made

pub returns-in-PassOn : goal.returns-in-PassOn
returns-in-PassOn c = λ mode input is.
    let passed = subst (λ (r : Reaction). IsReaction mode input r) c.in-PassOn.is is in
    c.may_change_text.ensures ∙ ap (λ (a : Action). may_change_text a) (sym passed.1) ∙ sym (or-false _) ∙ ap (λ (s : Step). list_any edits s.calls) (sym passed.0.1)
