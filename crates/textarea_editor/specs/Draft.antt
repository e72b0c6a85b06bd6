-- A text that is edited by calls, and whether it may differ from the saved one.
use Rattle.std.specs.Prelude.{◌≡◌, ◌⊎◌, ◌≤◌, ◌↔◌, ℕ, Bool, true, false, List, [], Option, None, Some, String, Vec, is_some, length, map, take}
use Rattle.std.specs.declared.alloc.Global.{Global}
use Rattle.textarea_calls.specs.Topics.{draws}
use Rattle.textarea_calls.specs.declared.call.Call.{Call}
use Rattle.textarea_calls.specs.declared.call.Call.TheVariants.{Input, InsertPasted, InsertStr, Render, ReplaceAll, ReplaceMatch, SetLines, SetSearchPattern, SetSearchText}
use Rattle.textarea_data.specs.declared.measure.TextAreaMeasure.{TextAreaMeasure}
use Rattle.textarea_editor.specs.declared.draft.Draft.{Draft}
use Rattle.textarea_modal.specs.Runs.{AllMade, RunsOutAt}
use Rattle.textarea_text.specs.Text.{lines, lines_of}
use Rattle.tui_textarea.specs.CallResults.{CallResult, Flag}
use Rattle.tui_textarea.specs.Grouping.{typing_ended}
use Rattle.tui_textarea.specs.Measure.{IsMeasured}
use Rattle.tui_textarea.specs.State.{State}

-- whether the call is one of those that a draft makes: all but a drawing and one that sets lines
abbrev pub is_made : Call → Bool
is_made (Render area) = false
is_made (SetLines lines cursor) = false
is_made other = true

-- the call draws nothing
abbrev pub IsUndrawn : Call → Type 0
IsUndrawn call = draws call ≡ false

-- the result is another one than that nothing was found
abbrev pub has_found : CallResult → Bool
has_found (Flag found) = found
has_found other = true

-- a call without the address of the text or input that it borrows
abbrev pub plain_call : Call → Call
plain_call (Input input) = Input (record { ref_ptr = (0, 0); now = input.now })
plain_call (InsertStr text) = InsertStr (record { ref_ptr = (0, 0); now = text.now })
plain_call (InsertPasted text) = InsertPasted (record { ref_ptr = (0, 0); now = text.now })
plain_call (SetSearchPattern text) = SetSearchPattern (record { ref_ptr = (0, 0); now = text.now })
plain_call (SetSearchText text ignore_case whole_word) = SetSearchText (record { ref_ptr = (0, 0); now = text.now }) ignore_case whole_word
plain_call (ReplaceMatch text) = ReplaceMatch (record { ref_ptr = (0, 0); now = text.now })
plain_call (ReplaceAll text) = ReplaceAll (record { ref_ptr = (0, 0); now = text.now })
plain_call call = call

abbrev pub plain_calls : List Call → List Call
plain_calls calls = map plain_call calls

-- ---- the saved text

-- the lines of the saved text, if there is a copy of them
abbrev pub Copy : Type 0
Copy = Option (Vec (String Global) Global)

-- a copy, if there is one, has the lines of this text
abbrev pub IsCopyOf : State → Copy → Type 0
IsCopyOf area None = Unit {0}
IsCopyOf area (Some copy) = lines_of copy.items ≡ lines area.document.text

-- the text is the saved one, and counts as unchanged
pub record IsSaved (draft : Draft) : Type 0 where
  pub unchanged : draft.is_changed ≡ false
  pub copy : IsCopyOf draft.area draft.saved

-- the text counts as changed until it is saved, since no copy of a saved one is kept
pub record IsUnsaved (draft : Draft) : Type 0 where
  pub changed : draft.is_changed ≡ true
  pub none : draft.saved ≡ None

-- the text was saved, which ends a run of typing
pub record IsSavedFrom (old new : Draft) : Type 0 where
  pub area : new.area ≡ typing_ended old.area
  pub saved : IsSaved new

-- there is a copy of the saved text
abbrev pub HasCopy : Draft → Type 0
HasCopy draft = is_some draft.saved ≡ true

-- whether the text counts as changed: by a copy of the saved one exactly if it differs, and without a copy always
abbrev pub IsChangeMark : Copy → State → Bool → Type 0
IsChangeMark None area changed = changed ≡ true
IsChangeMark (Some copy) area changed = (changed ≡ false) ↔ (lines area.document.text ≡ lines_of copy.items)

-- whether it does, if it did so or not before calls of which some may have changed it, or none
abbrev pub IsMarkAfter : Bool → Bool → Draft → Type 0
IsMarkAfter changed true new = IsChangeMark new.saved new.area new.is_changed
IsMarkAfter changed false new = new.is_changed ≡ changed

-- by a copy of the saved text, it counts as changed exactly if it differs from that
abbrev pub IsExact : Copy → State → Bool → Type 0
IsExact None area changed = Unit {0}
IsExact (Some copy) area changed = IsChangeMark (Some copy) area changed

-- the saved text is the same, and what is exact stays so; without a copy, if the new draft counts as
-- unchanged, so does the old one, and their texts are the same
pub record IsHonest (old new : Draft) : Type 0 where
  pub kept : new.saved ≡ old.saved
  pub exact : IsExact old.saved old.area old.is_changed → IsExact new.saved new.area new.is_changed
  pub alone : old.saved ≡ None → new.is_changed ≡ false → (old.is_changed ≡ false) × (new.area.document.text ≡ old.area.document.text)

-- ---- calls

-- the text needs this number of rows at this width
abbrev pub IsMeasuredRows : State → ℕ → ℕ → Type 0
IsMeasuredRows area width rows = (measure : TextAreaMeasure) × IsMeasured area width measure × (rows ≡ measure.content_rows)

-- memory ran out in the calls: those before this index were made, and then the call at it ran out
-- of memory, or no further call was made
pub record RunsShort (old : State) (calls : List Call) (new : State) : Type 0 where
  pub index : ℕ
  pub within : index ≤ length calls
  pub made : AllMade old (take index calls) new ⊎ RunsOutAt old calls index new

-- the calls, made one after another, lead from the old draft to the new one
pub record Makes (old : Draft) (calls : List Call) (new : Draft) : Type 0 where
  pub made : AllMade old.area calls new.area
  pub honest : IsHonest old new

-- memory ran out in the calls, and left the new draft
pub record FailsIn (old : Draft) (calls : List Call) (new : Draft) : Type 0 where
  pub short : RunsShort old.area calls new.area
  pub honest : IsHonest old new

-- calls of this kind lead from the old draft to the new one
pub record MakesSome (IsAsked : List Call → Type 0) (old new : Draft) : Type 0 where
  pub calls : List Call
  pub asked : IsAsked calls
  pub makes : Makes old calls new

-- calls of this kind in which memory ran out
pub record FailsInAsked (IsAsked : List Call → Type 0) (old new : Draft) : Type 0 where
  pub calls : List Call
  pub asked : IsAsked calls
  pub fails : FailsIn old calls new

-- memory ran out in calls of this kind, or before it was known which they are
abbrev pub FailsInSome : (List Call → Type 0) → Draft → Draft → Type 0
FailsInSome IsAsked old new = FailsIn old [] new ⊎ FailsInAsked IsAsked old new
