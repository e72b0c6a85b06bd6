use Rattle.std.proofs.Common.{◌∙◌, ◌||◌, is_err, refl, sym}
use Rattle.textarea_editor.proofs.Drafts.{IsNoted, any_edits_plain, fails_noted, makes_noted, mark_noted}
use Rattle.textarea_editor.proofs.draft.Draft.make.Goals as goal
use Rattle.textarea_editor.specs.Draft.{plain_calls}
use Rattle.textarea_editor.specs.declared.draft.Draft.{Draft}

-- the draft before it is noted
left : goal.After-note → Draft
left c = record c.args.self.now { area = c.make_all-made.new.area }

noted : (c : goal.After-note) → IsNoted (left c) (c.any_edits-may_change.result || is_err c.make_all-made.result) c.note.new.self
unfolding left
noted c = record { same = c.note.ensures.same; mark = c.note.ensures.mark }

pub returns-clause-ok : goal.returns-clause-ok
unfolding left
returns-clause-ok c =
    makes_noted c.note.result c.make_all-made.result c.args.self.now (left c) c.note.new.self (plain_calls c.args.calls.now) c.any_edits-may_change.result c.note.ensures.made refl refl (noted c)
    (c.any_edits-may_change.ensures ∙ sym (any_edits_plain c.args.calls.now)) c.make_all-made.ensures.ok

pub returns-clause-mark : goal.returns-clause-mark
unfolding left
returns-clause-mark c =
    mark_noted c.note.result c.make_all-made.result (left c) c.note.new.self c.args.calls.now c.any_edits-may_change.result c.note.ensures.made c.note.ensures.mark c.any_edits-may_change.ensures

pub returns-clause-err : goal.returns-clause-err
unfolding left
returns-clause-err c =
    fails_noted c.note.result c.make_all-made.result c.args.self.now (left c) c.note.new.self (plain_calls c.args.calls.now) c.any_edits-may_change.result c.note.ensures.made refl refl (noted c) c.make_all-made.ensures.err
