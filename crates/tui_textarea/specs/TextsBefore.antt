-- Texts from before that undos give, such as the one that was saved last.
use Rattle.std.specs.Prelude.{◌≡◌, ◌≢◌, ◌≤◌, ◌<◌, ◌↔◌, ◌&&◌, ℕ, Bool, true, false, List, is_some}
use Rattle.textarea_text.specs.Fragment.{fragment_text}
use Rattle.textarea_history.specs.HistoryLaw.{times}
use Rattle.textarea_history.specs.Log.{done_groups, newest}
use Rattle.textarea_document.specs.DocumentState.{DocumentState}
use Rattle.textarea_document.specs.Outcomes.{after_undo}
use Rattle.textarea_data.specs.declared.range.AtomicCursorBias.TheVariants.{Forward}
use Rattle.tui_textarea.specs.Units.{settled}
use Rattle.tui_textarea.specs.Guards.{is_editable, unless_read_only}
use Rattle.tui_textarea.specs.State.{State, with_document}

-- some number of undos, at most one for each done group, gives a text that is written so
abbrev pub ReachesBack : DocumentState → List ℕ → Type 0
ReachesBack document written =
    (count : ℕ) × (count ≤ done_groups document.log) × (fragment_text (times count after_undo document).text ≡ written)

-- the state after an undo: the same, if the text area is read only
abbrev pub state_undone : State → State
state_undone state = unless_read_only state (settled Forward (with_document state (after_undo state.document)))

-- whether an undo finds something to undo
abbrev pub undoes : State → Bool
undoes state = is_editable state && is_some (newest state.document.log)

-- Undos reach the present text. If an undo finds something, they reach another text exactly if they
-- reach it from the state after it, and then less can be undone. If it finds nothing in a text that
-- can be edited, they reach no other text. An undo leaves it open to edits, or not, as it was.
pub record StepsBack (state : State) : Type 0 where
  pub here : (written : List ℕ) → fragment_text state.document.text ≡ written → ReachesBack state.document written
  pub before : (written : List ℕ) (new : State) → undoes state ≡ true → new ≡ state_undone state → fragment_text state.document.text ≢ written
      → ReachesBack state.document written ↔ ReachesBack new.document written
  pub fewer : (new : State) → undoes state ≡ true → new ≡ state_undone state → done_groups new.document.log < done_groups state.document.log
  pub last : (written : List ℕ) → is_editable state ≡ true → undoes state ≡ false → fragment_text state.document.text ≢ written → ¬ ReachesBack state.document written
  pub editable : (new : State) → new ≡ state_undone state → is_editable new ≡ is_editable state
