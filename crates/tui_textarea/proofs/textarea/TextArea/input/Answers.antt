use Rattle.std.proofs.Common.{◌≡◌, subst}
use Rattle.std.specs.Result.{IfOk, OnErr, OnOk}
use Rattle.textarea_calls.specs.declared.action.Action.{Action}
use Rattle.tui_textarea.specs.Input.{IsAfterAction, IsInputOutOfMemory, ActMayRunOutOfMemory, action_flag}
use Rattle.tui_textarea.proofs.textarea.TextArea.input.Goals as goal

-- the result of the action, in the old state
answered : (c : goal.After-act) → IfOk c.act.result (λ changed. changed ≡ action_flag c.args.self.now c.action_of.result)
answered c = c.act.ensures.returned

acted : (c : goal.After-act) → OnOk c.act.result (IsAfterAction c.args.self.now c.action_of.result c.act.new.self)
acted c = c.act.ensures.ok

left : (c : goal.After-act) → OnErr c.act.result (IsInputOutOfMemory c.args.self.now c.action_of.result c.act.new.self)
left c = c.act.ensures.err

may_refuse : (c : goal.After-act) → OnErr c.act.result (ActMayRunOutOfMemory c.args.self.now c.action_of.result)
may_refuse c = c.act.ensures.may

pub returns-clause-returned : goal.returns-clause-returned
returns-clause-returned c = subst (λ (a : Action). IfOk c.act.result (λ changed. changed ≡ action_flag c.args.self.now a)) c.action_of.ensures (answered c)

pub returns-clause-ok : goal.returns-clause-ok
returns-clause-ok c = subst (λ (a : Action). OnOk c.act.result (IsAfterAction c.args.self.now a c.act.new.self)) c.action_of.ensures (acted c)

pub returns-clause-err : goal.returns-clause-err
returns-clause-err c = subst (λ (a : Action). OnErr c.act.result (IsInputOutOfMemory c.args.self.now a c.act.new.self)) c.action_of.ensures (left c)

pub returns-clause-may : goal.returns-clause-may
returns-clause-may c = subst (λ (a : Action). OnErr c.act.result (ActMayRunOutOfMemory c.args.self.now a)) c.action_of.ensures (may_refuse c)
