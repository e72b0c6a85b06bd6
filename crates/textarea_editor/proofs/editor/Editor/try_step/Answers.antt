use Rattle.std.proofs.Common.{OnErr, OnOk, ap, rules}
use Rattle.std.proofs.lemmas.Result.{on_err_weaker, on_ok_weaker}
use Rattle.textarea_editor.proofs.Times.{step_fails, step_makes}
use Rattle.textarea_editor.proofs.editor.Editor.try_step.Goals as goal
use Rattle.textarea_editor.specs.Draft.{MakesSome}
use Rattle.textarea_editor.specs.Steps.{FailsTimed, IsTimed}
use Rattle.textarea_editor.specs.declared.draft.Draft.{Draft}

pub returns : goal.returns
returns c =
    let old = c.args.self.now in
    let made : OnOk c.take.result (MakesSome (IsTimed old c.args.now c.args.event.now) old.draft c.take.new.self.draft) =
    on_ok_weaker c.take.result
    (λ made. step_makes old c.set_time.new.self c.take.new.self.draft c.args.now c.args.event.now (ap (λ (d : Draft). d.area) c.set_time.ensures.same) c.set_time.ensures.made made)
    c.take.ensures.ok in
    let failed : OnErr c.take.result (FailsTimed old c.args.now c.args.event.now c.take.new.self.draft) =
    on_err_weaker c.take.result
    (λ failed. step_fails old c.set_time.new.self c.take.new.self.draft c.args.now c.args.event.now (ap (λ (d : Draft). d.area) c.set_time.ensures.same) c.set_time.ensures.made failed)
    c.take.ensures.err in
    search (rules, made, failed)
