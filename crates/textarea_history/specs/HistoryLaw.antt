-- The results of several undos and redos of a text.
use Rattle.std.specs.Prelude.{◌≡◌, ℕ, zero, suc, ◌+◌, ◌-◌, ◌≤◌, Bool, length, drop, reverse, Option, Some, slice_get}
use Rattle.textarea_text.specs.Place.{Place}
use Rattle.textarea_text.specs.Splice.{Splice, Fits, applied, inverse, place_after, CanApply, CanUndo, IsTextBefore}
use Rattle.textarea_history.specs.Log.{Logged, recorded, redone, undone}

-- a step, made `count` times
abbrev pub times : {A : Type 0} → ℕ → (A → A) → A → A
times zero step start = start
times (suc count) step start = step (times count step start)

-- the text and its log after the edit, made and recorded at the time `now`, as a typed one or not
abbrev pub edit_recorded : Logged → Splice → Bool → ℕ → Logged
edit_recorded logged splice coalesce now = record {
  text = applied logged.text splice;
  log = recorded logged.log splice coalesce now;
}

-- the done edits can be undone from the text, the newest first; the undone ones can be redone, the
-- next one first; together they are at most the maximum, and each has a mark
pub record IsSoundLog (logged : Logged) : Type 0 where
  pub undo : CanUndo logged.text (reverse logged.log.done)
  pub redo : CanApply logged.text logged.log.undone
  pub bounded : length logged.log.done + length logged.log.undone ≤ logged.log.maximum
  pub marks : length logged.log.marks ≡ length logged.log.done + length logged.log.undone

-- the same text, and the same edits done and undone
pub record IsSame (first second : Logged) : Type 0 where
  pub text : first.text ≡ second.text
  pub done : first.log.done ≡ second.log.done
  pub undone : first.log.undone ≡ second.log.undone

-- `count` undos give the text from which the last `count` done edits lead to the present one; the
-- same number of redos then gives back the text and both lists of edits
pub record RestoresText (logged : Logged) (count : ℕ) : Type 0 where
  pub before : IsTextBefore (times count undone logged).text logged.text (drop (length logged.log.done - count) logged.log.done)
  pub again : IsSame (times count redone (times count undone logged)) logged

-- each done edit, from the newest on, can be undone once all newer ones are; and each undone edit,
-- from the next on, can be redone once all before it are. An edit that fits has a symbol
pub record EachFits (logged : Logged) : Type 0 where
  pub done : (count : ℕ) (splice : Splice) → slice_get (reverse logged.log.done) count ≡ Some splice → Fits (times count undone logged).text (inverse splice)
  pub undone : (count : ℕ) (splice : Splice) → slice_get logged.log.undone count ≡ Some splice → Fits (times count redone logged).text splice

-- a redo after an undo of this edit gives back the text and both lists; the cursor is after the
-- edit
abbrev pub IsRedone : Splice → Logged → Logged → Option Place → Type 0
IsRedone splice old again cursor = IsSame again old × (cursor ≡ Some (place_after splice))
