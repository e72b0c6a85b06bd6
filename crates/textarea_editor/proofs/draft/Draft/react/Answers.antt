use Rattle.std.proofs.Common.{◌≡◌, ◌||◌, Bool, OnErr, OnOk, Result, Ok, Err, is_err, refl, subst, sym}
use Rattle.std.specs.List.{list_any}
use Rattle.textarea_calls.specs.Edits.{edits}
use Rattle.textarea_editor.proofs.Drafts.{IsNoted, noted_failed, noted_made}
use Rattle.textarea_editor.proofs.draft.Draft.react.Goals as goal
use Rattle.textarea_editor.specs.Draft.{FailsIn, Makes}
use Rattle.textarea_editor.specs.declared.draft.Draft.{Draft}
use Rattle.textarea_modal.specs.Calls.{OfStep}
use Rattle.textarea_modal.specs.Runs.{AllMade, OneRunsOut}
use Rattle.textarea_modal.specs.declared.mode.Mode.{Mode}
use Rattle.textarea_modal.specs.declared.step.Reaction.{Reaction}

reacted : {E : Type 0} (made : Result Bool E) (old left new : Draft) (mode : Mode) (found : Reaction) (may : Bool) → left.saved ≡ old.saved → left.is_changed ≡ old.is_changed → IsNoted left (may || is_err made) new
    → OfStep mode found (λ step. may ≡ list_any edits step.calls) → OnOk made (OfStep mode found (λ step. AllMade old.area step.calls left.area))
    → OnOk made (OfStep mode found (λ step. Makes old step.calls new))
reacted (Err error) old left new mode found may copy same note edit led = tt
reacted (Ok quits) old left new mode found may copy same note edit led = λ input is.
    noted_made old left new _ may copy same (edit input is) (led input is) note

failed : {E : Type 0} (made : Result Bool E) (old left new : Draft) (mode : Mode) (found : Reaction) (may : Bool) → left.saved ≡ old.saved → left.is_changed ≡ old.is_changed → IsNoted left (may || is_err made) new
    → OnErr made (OfStep mode found (λ step. OneRunsOut old.area step.calls left.area)) → OnErr made (OfStep mode found (λ step. FailsIn old step.calls new))
failed (Ok quits) old left new mode found may copy same note ran = tt
failed (Err error) old left new mode found may copy same note ran = λ input is.
    noted_failed old left new _ may copy same (ran input is) note

-- the draft before it is noted
left : goal.After-note → Draft
left c = record c.args.self.now { area = c.react-made.new.area }

noted : (c : goal.After-note) → IsNoted (left c) (c.edits.result || is_err c.react-made.result) c.note.new.self
unfolding left
noted c = record { same = c.note.ensures.same; mark = c.note.ensures.mark }

pub returns-clause-ok : goal.returns-clause-ok
unfolding left
returns-clause-ok c =
    let mode = c.args.modal.now in
    let found = c.args.reaction in
    subst (λ r. OnOk r (OfStep mode found (λ step. Makes c.args.self.now step.calls c.note.new.self))) (sym c.note.ensures.made)
    (reacted c.react-made.result c.args.self.now (left c) c.note.new.self mode found c.edits.result refl refl (noted c) (c.edits.ensures mode) c.react-made.ensures.ok)

pub returns-clause-err : goal.returns-clause-err
unfolding left
returns-clause-err c =
    let mode = c.args.modal.now in
    let found = c.args.reaction in
    subst (λ r. OnErr r (OfStep mode found (λ step. FailsIn c.args.self.now step.calls c.note.new.self))) (sym c.note.ensures.made)
    (failed c.react-made.result c.args.self.now (left c) c.note.new.self mode found c.edits.result refl refl (noted c) c.react-made.ensures.err)
