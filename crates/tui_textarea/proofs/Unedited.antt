-- Calls that don't edit make no splice, and leave the text as it is.
use Rattle.std.proofs.Common.{◌≡◌, ◌∙◌, ℕ, Bool, true, false, List, [], Option, None, Some, ap, if◌then◌else◌, is_some, refl, ◌∷◌}
use Rattle.textarea_calls.specs.Edits.{edits}
use Rattle.textarea_calls.specs.FlagRule.{may_change_text}
use Rattle.textarea_calls.specs.declared.action.Action.{Action}
use Rattle.textarea_calls.specs.declared.action.Action.TheVariants as action
use Rattle.textarea_calls.specs.declared.call.Call.{Call}
use Rattle.textarea_calls.specs.declared.call.Call.TheVariants as call
use Rattle.textarea_data.specs.declared.cursor.CursorMove.{CursorMove}
use Rattle.textarea_data.specs.declared.cursor.CursorMove.TheVariants.{InViewport}
use Rattle.textarea_data.specs.declared.range.AtomicRange.{AtomicRange}
use Rattle.textarea_data.specs.declared.range.RejectedAtomicRange.{RejectedAtomicRange}
use Rattle.textarea_document.specs.DocumentState.{DocumentState}
use Rattle.textarea_document.specs.Selection.{is_selected, selected}
use Rattle.textarea_search.specs.PlainTexts.{text_pattern}
use Rattle.textarea_text.specs.Place.{Place}
use Rattle.textarea_text.specs.Text.{Symbol}
use Rattle.tui_textarea.proofs.Frames.{drawn_document}
use Rattle.tui_textarea.specs.CallResults.{CallResult, PatternRejected}
use Rattle.tui_textarea.specs.CallSplices.{splices_by, splices_of}
use Rattle.tui_textarea.specs.Calls.{rejected_ranges, with_ranges_if}
use Rattle.tui_textarea.specs.Drawing.{viewport_scrolled}
use Rattle.tui_textarea.specs.Guards.{has_several_lines, made_single, single_line_set}
use Rattle.tui_textarea.specs.Input.{IsAfterAction, asked_by, asked_without_shortcuts}
use Rattle.textarea_data.specs.declared.range.AtomicCursorBias.TheVariants.{Backward, Forward}
use Rattle.tui_textarea.specs.Moves.{IsMovedWith, after_move_by, bias_of, gone_to, pushed}
use Rattle.tui_textarea.specs.Ranges.{cursor_normalized, ranges_accepted}
use Rattle.tui_textarea.specs.Outcomes.{IsAfterCall, after_pattern}
use Rattle.tui_textarea.specs.Search.{after_search, next_match, previous_match}
use Rattle.tui_textarea.specs.Selection.{all_selected, selection_cancelled, selection_copied}
use Rattle.tui_textarea.specs.State.{State}
use Rattle.tui_textarea.proofs.Settling.{settled_text}

-- the two states have the same text
abbrev pub SameText : State → State → Type 0
SameText old new = new.document.text ≡ old.document.text

abbrev pub text : State → List Symbol
text state = state.document.text

moved : (old : State) (shift : Bool) (found : Option Place) → SameText old (after_move_by old shift found)
moved old shift None = refl
moved old shift (Some place) = refl

moved_with : (old : State) (shift : Bool) (cursor_move : CursorMove) (new : State) → IsMovedWith old shift cursor_move new → SameText old new
moved_with old shift cursor_move new h =
    let found = pushed old.document.ranges cursor_move h.found in
    ap text h.new_is ∙ settled_text (bias_of cursor_move) (after_move_by old shift found) ∙ moved old shift found

searched : (old : State) (found : Option Place) → SameText old (after_search old found)
searched old None = refl
searched old (Some place) = refl

pub copied : (old : State) → SameText old (selection_copied old)
copied old = by_flag old (is_selected old.document)
  where
    by_flag : (old : State) (some : Bool) → SameText old (if some then record (selection_cancelled old) { yank = selected old.document } else selection_cancelled old)
    by_flag old true = refl
    by_flag old false = refl

single_set : (old : State) (single_line : Bool) → SameText old (single_line_set old single_line)
single_set old false = refl
single_set old true = by_flag old (has_several_lines old)
  where
    by_flag : (old : State) (several : Bool) → SameText old (if several then old else made_single old)
    by_flag old true = refl
    by_flag old false = refl

pattern_set : (old : State) (pattern : List ℕ) (returned : CallResult) → SameText old (after_pattern old pattern returned)
pattern_set old pattern PatternRejected = refl
pattern_set old pattern other = refl

ranges_set : (rejected : List RejectedAtomicRange) (old : State) (ranges : List AtomicRange) → SameText old (with_ranges_if rejected old ranges)
ranges_set [] old ranges = settled_text Forward (ranges_accepted old ranges)
ranges_set (range ∷ rejected) old ranges = refl

-- there is no splice, and the text stays
pub record IsUnedited (state : State) (call : Call) : Type 0 where
  pub no_splice : splices_of state call ≡ []
  pub text_stays : (returned : CallResult) (new : State) → IsAfterCall state call returned new → SameText state new

record IsActUnedited (state : State) (asked : Action) : Type 0 where
  no_splice : splices_by state asked ≡ []
  text_stays : (new : State) → IsAfterAction state asked new → SameText state new

act_unedited : (state : State) (asked : Action) → may_change_text asked ≡ false → IsActUnedited state asked
act_unedited state action.Copy is = record { no_splice = refl; text_stays = λ new after. ap text after ∙ copied state }
act_unedited state (action.MoveWithShift cursor_move shift) is = record { no_splice = refl; text_stays = λ new after. moved_with state shift cursor_move new after }
act_unedited state (action.ScrollWithShift scrolling shift) is = record { no_splice = refl; text_stays = λ new after. moved_with (viewport_scrolled state scrolling) shift InViewport new after }
act_unedited state (action.Scroll scrolling) is = record { no_splice = refl; text_stays = λ new after. moved_with (viewport_scrolled state scrolling) (is_some state.document.anchor) InViewport new after }
act_unedited state asked is = record { no_splice = cc is; text_stays = λ new after. ap text after ∙ cc is }

pub unedited : (state : State) (made : Call) → edits made ≡ false → IsUnedited state made
unedited state (call.Input input) is =
    let act = act_unedited state (asked_by input.now) is in
    record { no_splice = act.no_splice; text_stays = λ returned new after. act.text_stays new after }
unedited state (call.InputWithoutShortcuts input) is =
    let act = act_unedited state (asked_without_shortcuts input.now) is in
    record { no_splice = act.no_splice; text_stays = λ returned new after. act.text_stays new after }
unedited state (call.Move cursor_move) is = record { no_splice = refl; text_stays = λ returned new after. moved_with state (is_some state.document.anchor) cursor_move new after }
unedited state (call.Scroll scrolling) is = record { no_splice = refl; text_stays = λ returned new after. moved_with (viewport_scrolled state scrolling) (is_some state.document.anchor) InViewport new after }
unedited state call.Copy is = record { no_splice = refl; text_stays = λ returned new after. ap text after ∙ copied state }
unedited state (call.SetSearchPattern pattern) is = record { no_splice = refl; text_stays = λ returned new after. ap text after ∙ pattern_set state pattern.now returned }
unedited state (call.SetSearchText plain ignore_case whole_word) is = record { no_splice = refl; text_stays = λ returned new after. ap text after ∙ pattern_set state (text_pattern plain.now ignore_case whole_word) returned }
unedited state (call.SearchForward at_cursor) is = record {
  no_splice = refl;
  text_stays = λ returned new after. ap text after
      ∙ settled_text Forward (after_search state (next_match state at_cursor)) ∙ searched state (next_match state at_cursor);
}
unedited state (call.SearchBack at_cursor) is = record {
  no_splice = refl;
  text_stays = λ returned new after. ap text after
      ∙ settled_text Backward (after_search state (previous_match state at_cursor)) ∙ searched state (previous_match state at_cursor);
}
unedited state (call.TrySetAtomicRanges ranges) is = record { no_splice = refl; text_stays = λ returned new after. ap text after ∙ ranges_set (rejected_ranges state ranges.now) state ranges.now }
unedited state (call.SetSingleLine single_line) is = record { no_splice = refl; text_stays = λ returned new after. ap text after ∙ single_set state single_line }
unedited state (call.Render area) is = record { no_splice = refl; text_stays = λ returned new after. ap (λ (d : DocumentState). d.text) (drawn_document state new area after) }
unedited state (call.GoTo place) is = record { no_splice = refl; text_stays = λ returned new after. ap text after ∙ settled_text Forward (gone_to state place) }
unedited state call.SelectAll is = record { no_splice = refl; text_stays = λ returned new after. ap text after ∙ settled_text Forward (all_selected state) }
unedited state (call.NormalizeCursorAroundAtomicRanges bias) is = record { no_splice = refl; text_stays = λ returned new after. ap text after ∙ settled_text bias (cursor_normalized state bias) }
unedited state (call.SetCursorUnit unit) is =
    record { no_splice = refl; text_stays = λ returned new after. ap text after ∙ settled_text Forward (record state { settings = record state.settings { cursor_unit = unit } }) }
unedited state other is = record { no_splice = cc is; text_stays = λ returned new after. ap text after ∙ cc is }
