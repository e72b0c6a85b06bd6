-- What the call of an input returns.
use Rattle.std.specs.Prelude.{Bool, true, false}
use Rattle.textarea_calls.specs.declared.action.Action.{Action}
use Rattle.textarea_calls.specs.declared.action.Action.TheVariants as action

-- the result of an input: the text is changed, it is unchanged, or as the call returns
pub data FlagRule : Type 0 where
  changed : FlagRule
  unchanged : FlagRule
  as_called : FlagRule

-- the result as a truth value; `called` is the result of the call
abbrev pub result_flag : FlagRule → Bool → Bool
result_flag changed called = true
result_flag unchanged called = false
result_flag as_called called = called

-- The result of an input that asks for an action. Insertions of a character or a line break always
-- change the text; copying, moving, scrolling and no call never do. Each other call returns whether
-- it changed the text.
abbrev pub flag_rule_of : Action → FlagRule
flag_rule_of (action.InsertChar c) = changed
flag_rule_of action.InsertNewline = changed
flag_rule_of action.Nothing = unchanged
flag_rule_of action.Copy = unchanged
flag_rule_of (action.MoveWithShift cursor_move shift) = unchanged
flag_rule_of (action.ScrollWithShift scrolling shift) = unchanged
flag_rule_of (action.Scroll scrolling) = unchanged
flag_rule_of other = as_called

-- whether an input with this result may change the text
abbrev pub may_change : FlagRule → Bool
may_change unchanged = false
may_change other = true

-- whether the action may change the text
abbrev pub may_change_text : Action → Bool
may_change_text asked = may_change (flag_rule_of asked)
