-- How the changes that are taken lead from one text to another, over each call and over a run.
use Rattle.std.specs.Prelude.{◌≡◌, List, [], ◌∷◌, ◌++◌, length, map, take, IfNone, IfSome}
use Rattle.textarea_calls.specs.declared.answer.Answer.{Answer}
use Rattle.textarea_calls.specs.declared.call.Call.{Call}
use Rattle.textarea_calls.specs.declared.call.Call.TheVariants.{SetChangeLog}
use Rattle.textarea_document.specs.Changes.{ChangeView, changed_by_all}
use Rattle.textarea_document.specs.DocumentState.{DocumentState}
use Rattle.tui_textarea.specs.CallResults.{CallResult, Changes, call_result}
use Rattle.tui_textarea.specs.State.{State}

-- the changes that a call returns
abbrev pub taken_by : CallResult → List ChangeView
taken_by (Changes changes) = changes
taken_by returned = []

-- those that calls return, one call's after another's
abbrev pub taken_in : List CallResult → List ChangeView
taken_in [] = []
taken_in (returned ∷ results) = taken_by returned ++ taken_in results

-- the call begins or ends the log
abbrev pub SetsLog : Call → Type 0
SetsLog (SetChangeLog unit) = Unit {0}
SetsLog call = ⊥

-- none of the calls does
abbrev pub NoneSetsLog : List Call → Type 0
NoneSetsLog [] = Unit {0}
NoneSetsLog (call ∷ calls) = (¬ SetsLog call) × NoneSetsLog calls

-- More changes were made, which lead from the old text to the new one. After those of the old log
-- they are the changes that were taken, and after these those of the new log. Without a unit there
-- are none.
pub record ChangesFollow (old : DocumentState) (taken : List ChangeView) (new : DocumentState) : Type 0 where
  pub more : List ChangeView
  pub unit : new.changes.unit ≡ old.changes.unit
  pub made : old.changes.made ++ more ≡ taken ++ new.changes.made
  pub leads : IfSome old.changes.unit (λ unit. changed_by_all unit old.text more ≡ new.text)
  pub none : IfNone old.changes.unit (more ≡ [])

-- over a run in which no call begins or ends the log, the changes that its calls return, and after
-- them those of the log at the end, follow those of the log at the start, and lead from text to text
abbrev pub ChangesOfRun : State → List Call → List Answer → State → Type 0
ChangesOfRun old calls results new =
    NoneSetsLog (take (length results) calls) → ChangesFollow old.document (taken_in (map call_result results)) new.document
