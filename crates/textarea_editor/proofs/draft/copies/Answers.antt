use Rattle.std.proofs.Common.{◌∙◌, ap, subst, sym}
use Rattle.std.specs.List.{list_any}
use Rattle.textarea_editor.proofs.Copying.{step_copies}
use Rattle.textarea_editor.proofs.draft.copies.Goals as goal
use Rattle.textarea_editor.specs.EventEffects.{is_copying}
use Rattle.textarea_modal.specs.Calls.{IsReaction}
use Rattle.textarea_modal.specs.Table.{Step}
use Rattle.textarea_modal.specs.declared.step.Reaction.{Reaction}

pub returns-in-Step : goal.returns-in-Step
returns-in-Step c = λ mode input is.
    let made = subst (λ (r : Reaction). IsReaction mode input r) c.in-Step.is is in
    c.any_copies.ensures ∙ step_copies c.in-Step.step.motion c.in-Step.step.calls.now ∙ ap (λ (s : Step). list_any is_copying s.calls) made

pub returns-in-PassOn : goal.returns-in-PassOn
returns-in-PassOn c = λ mode input is.
    let passed = subst (λ (r : Reaction). IsReaction mode input r) c.in-PassOn.is is in
    ap (λ (s : Step). list_any is_copying s.calls) (sym passed.0.1)
