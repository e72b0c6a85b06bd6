use Rattle.std.proofs.Common.{◌∙◌, ◌||◌, [], ◌∷◌, ap, is_err, refl, sym}
use Rattle.std.proofs.Math.Bool.{or-false}
use Rattle.std.proofs.lemmas.Result.{on_err_weaker, on_ok_weaker}
use Rattle.textarea_calls.specs.FlagRule.{may_change_text}
use Rattle.textarea_calls.specs.declared.action.Action.{Action}
use Rattle.textarea_editor.proofs.Drafts.{IsNoted, fails_noted, makes_noted}
use Rattle.textarea_editor.proofs.draft.Draft.input.Goals as goal
use Rattle.textarea_editor.specs.declared.draft.Draft.{Draft}
use Rattle.textarea_modal.specs.Table.{passed_on}

-- the draft before it is noted
left : goal.After-note → Draft
left c = record c.args.self.now { area = c.pass_on-made.new.area }

noted : (c : goal.After-note) → IsNoted (left c) (c.may_change_text.result || is_err c.pass_on-made.result) c.note.new.self
unfolding left
noted c = record { same = c.note.ensures.same; mark = c.note.ensures.mark }

pub returns-clause-ok : goal.returns-clause-ok
unfolding left
returns-clause-ok c =
    let input = c.args.input.now in
    makes_noted c.note.result c.pass_on-made.result c.args.self.now (left c) c.note.new.self (passed_on input ∷ []) c.may_change_text.result c.note.ensures.made refl refl (noted c)
    (c.may_change_text.ensures ∙ ap (λ (a : Action). may_change_text a) c.action_of-action.ensures ∙ sym (or-false _))
    (on_ok_weaker c.pass_on-made.result (λ made. made input (sym c.action_of-action.ensures)) c.pass_on-made.ensures.ok)

pub returns-clause-err : goal.returns-clause-err
unfolding left
returns-clause-err c =
    let input = c.args.input.now in
    fails_noted c.note.result c.pass_on-made.result c.args.self.now (left c) c.note.new.self (passed_on input ∷ []) c.may_change_text.result c.note.ensures.made refl refl (noted c)
    (on_err_weaker c.pass_on-made.result (λ ran. ran input (sym c.action_of-action.ensures)) c.pass_on-made.ensures.err)
