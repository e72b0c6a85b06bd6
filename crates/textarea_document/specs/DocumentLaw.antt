-- The laws of both lists of edits, and of undos and redos one after another.
use Rattle.std.specs.Prelude.{◌≡◌, ℕ, ◌+◌, ◌-◌, ◌<◌, Bool, true, false, List, Option, length, drop, reverse, slice_get, IfSome}
use Rattle.textarea_data.specs.declared.range.AtomicRange.{AtomicRange}
use Rattle.textarea_text.specs.Splice.{CanApply, CanUndo, IsTextBefore, Splice, place_after}
use Rattle.textarea_history.specs.Log.{done_groups, joins, newest, newest_group, recorded}
use Rattle.textarea_history.specs.HistoryLaw.{IsSame, times}
use Rattle.textarea_document.specs.DocumentState.{DocumentState, logged}
use Rattle.textarea_document.specs.Outcomes.{after_redo, after_undo}

-- The edits of both lists can be made one after another. Each done one, from the newest on, has at
-- least one symbol, and its inverse fits the text after it; each undone one, from the next on, has
-- at least one symbol, and fits the text once those before it are redone.
pub record ListsFit (document : DocumentState) : Type 0 where
  pub done : CanUndo document.text (reverse document.log.done)
  pub undone : CanApply document.text document.log.undone

-- after `count` undos `count` groups less are done, and the text is the one from which the edits
-- that were undone lead to the present text; after the same number of redos the text and both lists
-- of edits are restored, and the cursor is where the newest edit leaves it
pub record RestoresDocument (document : DocumentState) (count : ℕ) : Type 0 where
  pub groups : done_groups (times count after_undo document).log ≡ done_groups document.log - count
  pub before : IsTextBefore (times count after_undo document).text document.text
      (drop (length (times count after_undo document).log.done) document.log.done)
  pub again : IsSame (logged (times count after_redo (times count after_undo document))) (logged document)
  pub cursor : 0 < count → IfSome (newest document.log)
      (λ splice. (times count after_redo (times count after_undo document)).cursor ≡ place_after splice)

-- an undo and a redo restore the text, both lists of edits, and the cursor
pub record RestoresAll (document : DocumentState) : Type 0 where
  pub same : IsSame (logged (after_redo (after_undo document))) (logged document)
  pub cursor : (after_redo (after_undo document)).cursor ≡ document.cursor

-- the ranges before the oldest edit of the newest group, if they are remembered
abbrev pub ranges_before_group : DocumentState → Option (List AtomicRange)
ranges_before_group document =
    slice_get document.past_ranges.before (length document.log.undone + (newest_group document.log - 1))

-- the ranges before this edit are remembered: they are to be, it joins no other, and it is recorded
pub record RemembersBefore (document : DocumentState) (splice : Splice) (typed : Bool) (now : ℕ) : Type 0 where
  pub on : document.past_ranges.on ≡ true
  pub apart : joins document.log splice typed now ≡ false
  pub some : 0 < length (recorded document.log splice typed now).done
