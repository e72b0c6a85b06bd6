-- Written by tools/calls from crates/textarea_calls/calls.txt.
-- Which calls may change the text.
use Rattle.std.specs.Prelude.{Bool, true, false}
use Rattle.textarea_calls.specs.FlagRule.{may_change_text}
use Rattle.textarea_calls.specs.Keys.{keys_with_shortcuts, keys_without_shortcuts}
use Rattle.textarea_calls.specs.Table.{action_by}
use Rattle.textarea_calls.specs.declared.call.Call.{Call}
use Rattle.textarea_calls.specs.declared.call.Call.TheVariants as call

-- whether the call may change the text; of an input, whether its action may
abbrev pub edits : Call → Bool
edits (call.Input input) = may_change_text (action_by keys_with_shortcuts input.now)
edits (call.InputWithoutShortcuts input) = may_change_text (action_by keys_without_shortcuts input.now)
edits (call.InsertChar c) = true
edits call.InsertNewline = true
edits (call.InsertStr text) = true
edits (call.InsertPasted text) = true
edits call.InsertTab = true
edits call.Paste = true
edits call.DuplicateLine = true
edits call.IndentLines = true
edits call.OutdentLines = true
edits call.MoveLinesUp = true
edits call.MoveLinesDown = true
edits (call.ReplaceRange from to text) = true
edits (call.SetLines lines cursor) = true
edits call.DeleteChar = true
edits call.DeleteNextChar = true
edits call.DeleteNewline = true
edits (call.DeleteStr count) = true
edits call.DeleteLineByEnd = true
edits call.DeleteLineByHead = true
edits call.DeleteWord = true
edits call.DeleteNextWord = true
edits call.Clear = true
edits call.Cut = true
edits call.Undo = true
edits call.Redo = true
edits (call.ReplaceMatch text) = true
edits (call.ReplaceAll text) = true
edits (call.DeleteAtomicRangeAtCursor direction) = true
edits other = false
