use Rattle.std.proofs.Common.{◌≡◌, subst}
use Rattle.std.specs.Result.{IfOk, OnErr, OnOk}
use Rattle.textarea_calls.specs.declared.action.Action.{Action}
use Rattle.tui_textarea.specs.Input.{IsAfterAction, IsInputOutOfMemory, ActMayRunOutOfMemory, action_flag}
use Rattle.tui_textarea.proofs.textarea.TextArea.input_without_shortcuts.Goals as goal

pub returns-clause-returned : goal.returns-clause-returned
returns-clause-returned c = subst (λ (a : Action). IfOk c.act.result (λ changed. changed ≡ action_flag c.args.self.now a)) c.action_without_shortcuts.ensures c.act.ensures.returned

pub returns-clause-ok : goal.returns-clause-ok
returns-clause-ok c = subst (λ (a : Action). OnOk c.act.result (IsAfterAction c.args.self.now a c.act.new.self)) c.action_without_shortcuts.ensures c.act.ensures.ok

pub returns-clause-err : goal.returns-clause-err
returns-clause-err c = subst (λ (a : Action). OnErr c.act.result (IsInputOutOfMemory c.args.self.now a c.act.new.self)) c.action_without_shortcuts.ensures c.act.ensures.err

pub returns-clause-may : goal.returns-clause-may
returns-clause-may c = subst (λ (a : Action). OnErr c.act.result (ActMayRunOutOfMemory c.args.self.now a)) c.action_without_shortcuts.ensures c.act.ensures.may
