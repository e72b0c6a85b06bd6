-- Which lines each call wraps, and so what it adds to the wrap counter.
use Rattle.textarea_document.specs.DocumentState.{DocumentState}
use Rattle.textarea_document.specs.DocumentWraps.{SplicedAtOnce, SplicedBy, WrapsAll, WrapsBySettings, WrapsByWidth}
use Rattle.textarea_text.specs.Splice.{Splice}
use Rattle.textarea_text.specs.Text.{lines_of}
use Rattle.tui_textarea.specs.Guards.{bars_lines}
use Rattle.tui_textarea.specs.Input.{asked_by, asked_without_shortcuts}
use Rattle.tui_textarea.specs.LayoutCalls.{alignment_set, mode_set, line_numbers_set, tab_length_set}
use Rattle.tui_textarea.specs.State.{State}
use Rattle.std.specs.Prelude.{Bool, List, [], true, false}
use Rattle.tui_textarea.specs.CallSplices.{splices_of}
use Rattle.textarea_calls.specs.declared.action.Action.{Action}
use Rattle.textarea_calls.specs.declared.action.Action.TheVariants as action
use Rattle.textarea_calls.specs.declared.call.Call.{Call}
use Rattle.textarea_calls.specs.declared.call.Call.TheVariants.{IndentLines, Input, InputWithoutShortcuts, OutdentLines, Redo, ReplaceAll, Undo, SetLines, SetTabLength, SetWrapMode, SetLineNumberStyle, RemoveLineNumber, SetAlignment, Render}

-- all lines are wrapped, or none where new lines are left out
abbrev pub WrapsAllUnless : Bool → State → State → Type 0
WrapsAllUnless true old new = SplicedBy old.document [] new.document
WrapsAllUnless false old new = WrapsAll old.document new.document

-- the splices of an input with this action: those of an undo or a redo wrap at once
abbrev pub WrapsByAct : Action → DocumentState → List Splice → DocumentState → Type 0
WrapsByAct action.Undo old splices new = SplicedAtOnce old splices new
WrapsByAct action.Redo old splices new = SplicedAtOnce old splices new
WrapsByAct asked old splices new = SplicedBy old splices new

-- Lines that replace the old ones are all wrapped. A layout setting wraps all lines if it changes
-- the layout, a drawing if it changes the width of the map of visual rows. An undo, a redo, and the
-- calls that replace many matches or starts of lines wrap each line that one of their splices
-- touches, once. Every other call wraps what its splices wrap, one after another: where the width of
-- the map stays, a removal wraps one line, and an insertion one line more than it has breaks. A call
-- without a splice leaves the text, its rows and the counter.
abbrev pub WrapsByCall : State → Call → State → Type 0
WrapsByCall old (SetLines lines cursor) new = WrapsAllUnless (bars_lines old (lines_of lines.now)) old new
WrapsByCall old (SetTabLength columns) new = WrapsBySettings old.document (tab_length_set old columns) new.document
WrapsByCall old (SetWrapMode mode) new = WrapsBySettings old.document (mode_set old mode) new.document
WrapsByCall old (SetLineNumberStyle style) new = WrapsBySettings old.document (line_numbers_set old true) new.document
WrapsByCall old RemoveLineNumber new = WrapsBySettings old.document (line_numbers_set old false) new.document
WrapsByCall old (SetAlignment alignment) new = WrapsBySettings old.document (alignment_set old alignment) new.document
WrapsByCall old (Render area) new = WrapsByWidth old.document new.document
WrapsByCall old Undo new = SplicedAtOnce old.document (splices_of old Undo) new.document
WrapsByCall old Redo new = SplicedAtOnce old.document (splices_of old Redo) new.document
WrapsByCall old (ReplaceAll text) new = SplicedAtOnce old.document (splices_of old (ReplaceAll text)) new.document
WrapsByCall old IndentLines new = SplicedAtOnce old.document (splices_of old IndentLines) new.document
WrapsByCall old OutdentLines new = SplicedAtOnce old.document (splices_of old OutdentLines) new.document
WrapsByCall old (Input input) new = WrapsByAct (asked_by input.now) old.document (splices_of old (Input input)) new.document
WrapsByCall old (InputWithoutShortcuts input) new =
    WrapsByAct (asked_without_shortcuts input.now) old.document (splices_of old (InputWithoutShortcuts input)) new.document
WrapsByCall old call new = SplicedBy old.document (splices_of old call) new.document
