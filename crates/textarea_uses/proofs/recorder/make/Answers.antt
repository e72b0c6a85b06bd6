use Rattle.std.proofs.Common.{subst}
use Rattle.std.specs.Prelude.{OnErr, OnOk}
use Rattle.tui_textarea.specs.Input.{IsAfterAction, IsInputOutOfMemory, asked_by}
use Rattle.tui_textarea.specs.State.{State}
use Rattle.textarea_uses.proofs.recorder.make.Goals as goal

pub returns-clause-ok : goal.returns-clause-ok
returns-clause-ok c = subst (λ (s : State). OnOk c.input.result (IsAfterAction s (asked_by c.args.step.now.0) c.input.new.self)) c.set_now.ensures c.input.ensures.ok

pub returns-clause-err : goal.returns-clause-err
returns-clause-err c = subst (λ (s : State). OnErr c.input.result (IsInputOutOfMemory s (asked_by c.args.step.now.0) c.input.new.self)) c.set_now.ensures c.input.ensures.err
