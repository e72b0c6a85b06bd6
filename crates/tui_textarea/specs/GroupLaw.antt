-- With grouping on, one undo takes a whole call back.
use Rattle.std.specs.Prelude.{◌≡◌, ◌<◌, ◌≤◌, ◌*◌, ℕ, Bool, true, false, List, length}
use Rattle.textarea_text.specs.Splice.{Fits, Splice}
use Rattle.textarea_text.specs.Text.{Symbol}
use Rattle.textarea_history.specs.Groups.{is_open}
use Rattle.textarea_history.specs.Log.{joins}
use Rattle.textarea_document.specs.DocumentState.{DocumentState}
use Rattle.textarea_document.specs.Outcomes.{after_edit, after_undo}
use Rattle.textarea_document.specs.Selection.{is_selected}
use Rattle.textarea_calls.specs.declared.call.Call.{Call}
use Rattle.textarea_calls.specs.declared.call.Call.TheVariants as call
use Rattle.tui_textarea.specs.Calls.{call_splices, state_after}
use Rattle.tui_textarea.specs.Replacing.{matches_splices, replaceable}
use Rattle.tui_textarea.specs.State.{State}

-- the call inserts, over the selected text if there is any
abbrev pub IsInsertion : Call → Type 0
IsInsertion (call.InsertChar c) = Unit {0}
IsInsertion (call.InsertStr text) = Unit {0}
IsInsertion (call.InsertPasted text) = Unit {0}
IsInsertion call.InsertTab = Unit {0}
IsInsertion call.InsertNewline = Unit {0}
IsInsertion call.Paste = Unit {0}
IsInsertion made = ⊥

-- With grouping on, if no group is open, the history remembers at least two edits, and nothing that
-- is typed can join an edit from before the call, since no run is open or a text is selected: the
-- call changes nothing in the text, or one undo after it gives the text from before it.
abbrev pub IsUndoneAtOnce : State → Call → Type 0
IsUndoneAtOnce state made =
    state.settings.undo_grouping ≡ true → is_open state.document.log.group ≡ false → 1 < state.document.log.maximum →
    (is_selected state.document ≡ false → state.document.log.run_open ≡ false) → 0 < length (call_splices state made) →
    (after_undo (state_after state made).document).text ≡ state.document.text

-- If no group is open and an edit is remembered, one undo after an edit that joins no other gives
-- the text from before it. Every call but an insertion over a selection makes one edit at most.
abbrev pub IsEditUndoneAtOnce : DocumentState → Splice → Bool → ℕ → Type 0
IsEditUndoneAtOnce document splice typed now =
    Fits document.text splice → 0 < document.log.maximum → is_open document.log.group ≡ false → joins document.log splice typed now ≡ false →
    (after_undo (after_edit document splice typed now)).text ≡ document.text

-- the call replaces text
abbrev pub IsReplacement : Call → Type 0
IsReplacement (call.ReplaceRange from to text) = Unit {0}
IsReplacement (call.ReplaceMatch text) = Unit {0}
IsReplacement (call.ReplaceAll text) = Unit {0}
IsReplacement made = ⊥

-- If no group is open, and the history remembers as many edits as the call makes: the call makes
-- none, or one undo after it gives the text from before it.
abbrev pub IsReplacementUndoneAtOnce : State → Call → Type 0
IsReplacementUndoneAtOnce state made =
    is_open state.document.log.group ≡ false →
    0 < length (call_splices state made) → length (call_splices state made) ≤ state.document.log.maximum →
    (after_undo (state_after state made).document).text ≡ state.document.text

-- The replacement of all matches by the symbols makes at most two edits for each.
pub record MakesFewEdits (state : State) (symbols : List Symbol) : Type 0 where
  pub few : length (matches_splices state symbols) ≤ 2 * length (replaceable state)
