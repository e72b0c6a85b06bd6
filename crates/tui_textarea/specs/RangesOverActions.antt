-- How the atomic ranges move with the text over the splices of an action.
use Rattle.std.specs.Prelude.{List}
use Rattle.textarea_text.specs.Splice.{Splice}
use Rattle.textarea_document.specs.RangesOverSplices.{RangesFollowPast, RangesStayWhole}
use Rattle.textarea_document.specs.DocumentState.{DocumentState}
use Rattle.textarea_calls.specs.declared.action.Action.{Action}
use Rattle.textarea_calls.specs.declared.action.Action.TheVariants.{Undo, Redo}

-- The ranges move with the text over these splices, those of undo and redo if no ranges are remembered;
-- only these may split a range.
abbrev pub RangesFollowAction : Action → DocumentState → List Splice → DocumentState → Type 0
RangesFollowAction Undo old splices new = RangesFollowPast old splices new
RangesFollowAction Redo old splices new = RangesFollowPast old splices new
RangesFollowAction action old splices new = RangesStayWhole old splices new
