use Rattle.std.proofs.Common.{◌≡◌, ◌∙◌, List, [], rules, subst, sym}
use Rattle.textarea_calls.specs.declared.call.Call.{Call}
use Rattle.textarea_editor.proofs.Drafts.{makes_none, on_err}
use Rattle.textarea_editor.proofs.Replacing.{past_last, past_more, skip_last, skip_more}
use Rattle.textarea_editor.proofs.editor.Editor.skip_match.Goals as goal
use Rattle.textarea_editor.specs.Controls.{past_match}
use Rattle.textarea_editor.specs.Draft.{FailsIn, Makes}
use Rattle.textarea_editor.specs.declared.draft.Draft.{Draft}

pub returns-then-self-lt2 : goal.returns-then-self-lt2
returns-then-self-lt2 c =
    let old = c.args.self.now in
    let made = subst (λ (calls : List Call). Makes old.draft calls c.end_replacing.new.self.draft) (skip_last old.controls.matches c.if-self-lt2.true)
    (subst (λ (d : Draft). Makes old.draft [] d) (sym c.end_replacing.ensures.draft) (makes_none old.draft)) in
    let past : c.end_replacing.new.self.controls ≡ past_match old.controls = c.end_replacing.ensures.controls ∙ past_last old.controls c.if-self-lt2.true in
    search (rules, made, past)

pub returns : goal.returns
returns c =
    let old = c.args.self.now in
    let made = subst (λ (calls : List Call). Makes old.draft calls c.find.new.self) (skip_more old.controls.matches c.if-self-lt2.false) c.in_ok-find.ensures.ok in
    let past = past_more old.controls c.if-self-lt2.false in
    search (rules, made, past)

pub returns-in_err-find : goal.returns-in_err-find
returns-in_err-find c =
    let old = c.args.self.now in
    let failed = on_err c.from_residual.result
    (subst (λ (calls : List Call). FailsIn old.draft calls c.find.new.self) (skip_more old.controls.matches c.if-self-lt2.false) c.in_err-find.ensures.err) in
    search (rules, failed)
