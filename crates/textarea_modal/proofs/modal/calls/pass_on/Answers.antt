use Rattle.std.proofs.Common.{◌≡◌, ◌∙◌, Bool, [], ◌∷◌, IfOk, OnErr, OnOk, Result, Ok, Err, false, lit<, ap, refl, subst, sym}
use Rattle.textarea_calls.specs.Edits.{edits}
use Rattle.textarea_calls.specs.declared.action.Action.{Action}
use Rattle.textarea_calls.specs.declared.answer.Answer.TheVariants as answer
use Rattle.textarea_data.specs.declared.input.Input.{Input}
use Rattle.textarea_modal.proofs.Runs.{DrawsNothing, made_more, none_made, ran_out_here}
use Rattle.textarea_modal.proofs.modal.calls.pass_on.Goals as goal
use Rattle.textarea_modal.specs.Runs.{AllMade, OneRunsOut}
use Rattle.textarea_modal.specs.Table.{passed_on}
use Rattle.tui_textarea.specs.CallResults.{Done, Flag}
use Rattle.tui_textarea.specs.Input.{ActMayRunOutOfMemory, IsAfterAction, IsInputOutOfMemory, action_flag, asked_by}
use Rattle.tui_textarea.specs.State.{State}

draws_nothing : (input : Input) → DrawsNothing (passed_on input)
draws_nothing input = record { made = λ state buffer. refl; ran_out = λ buffer. refl }

passed : {E : Type 0} (result : Result Bool E) (old new : State) (asked : Action) → ((input : Input) → edits (passed_on input) ≡ false → IsAfterAction old (asked_by input) new
    → new.document.text ≡ old.document.text) → IfOk result (λ changed. changed ≡ action_flag old asked) → OnOk result (IsAfterAction old asked new)
    → OnOk result ((input : Input) → asked_by input ≡ asked → AllMade old (passed_on input ∷ []) new)
passed (Err error) old new asked keeps returned after = tt
passed (Ok changed) old new asked keeps returned after = λ input is.
    let acted : IsAfterAction old (asked_by input) new = subst (λ (a : Action). IsAfterAction old a new) (sym is) after in
    made_more old old new (passed_on input ∷ []) 0 (passed_on input) (answer.Flag changed) (lit< tt) refl (none_made old)
    (ap Flag (returned ∙ ap (λ (a : Action). action_flag old a) (sym is)))
    acted (draws_nothing input) (λ none. keeps input none acted)

failed : {E : Type 0} (result : Result Bool E) (old new : State) (asked : Action) → OnErr result (ActMayRunOutOfMemory old asked) → OnErr result (IsInputOutOfMemory old asked new)
    → OnErr result ((input : Input) → asked_by input ≡ asked → OneRunsOut old (passed_on input ∷ []) new)
failed (Ok changed) old new asked may left = tt
failed (Err error) old new asked may left = λ input is.
    ran_out_here old old new (passed_on input ∷ []) 0 (passed_on input) (lit< tt) refl (none_made old)
    (record {
      may = subst (λ (a : Action). ActMayRunOutOfMemory old a) (sym is) may;
      left = subst (λ (a : Action). IsInputOutOfMemory old a new) (sym is) left;
    })
    (draws_nothing input)

pub returns-clause-ok : goal.returns-clause-ok
returns-clause-ok c =
    passed c.act.result c.args.area.now c.act.new.self c.args.action
    (λ input none acted. c.others_edit_nothing.ensures.text c.args.area.now c.act.new.self (passed_on input) Done none acted) c.act.ensures.returned c.act.ensures.ok

pub returns-clause-err : goal.returns-clause-err
returns-clause-err c =
    failed c.act.result c.args.area.now c.act.new.self c.args.action c.act.ensures.may c.act.ensures.err
