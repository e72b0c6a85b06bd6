-- The invariant of every document.
use Rattle.std.specs.Prelude.{◌≡◌, ◌+◌, ◌≤◌, false, length, reverse, IfSome}
use Rattle.textarea_text.specs.Text.{lines}
use Rattle.textarea_text.specs.Place.{IsPlace}
use Rattle.textarea_text.specs.Splice.{CanApply, CanUndo}
use Rattle.textarea_history.specs.Groups.{is_grouped}
use Rattle.textarea_history.specs.HistoryLaw.{IsSoundLog}
use Rattle.textarea_ranges.specs.Order.{AreInOrder}
use Rattle.textarea_ranges.specs.Valid.{AreValid}
use Rattle.textarea_document.specs.DocumentState.{DocumentState, logged}
use Rattle.textarea_document.specs.PastRanges.{ArePastRanges, texts_before}

-- the cursor and the anchor are positions of the text, and the ranges are valid for it and sorted;
-- the done edits can be undone, the newest first; the undone ones can be redone, the next one
-- first; together they are at most the maximum, and each has a mark; no group is undone partly; and
-- the remembered ranges are valid for the texts before the edits
pub record IsSound (document : DocumentState) : Type 0 where
  pub cursor : IsPlace document.text document.cursor
  pub anchor : IfSome document.anchor (IsPlace document.text)
  pub ranges : AreValid (lines document.text) document.ranges
  pub in_order : AreInOrder document.ranges
  pub undo : CanUndo document.text (reverse document.log.done)
  pub redo : CanApply document.text document.log.undone
  pub bounded : length document.log.done + length document.log.undone ≤ document.log.maximum
  pub marks : length document.log.marks ≡ length document.log.done + length document.log.undone
  pub whole : is_grouped document.log.marks (length document.log.done) ≡ false
  pub past : ArePastRanges (texts_before document.text document.log.done document.log.undone) document.past_ranges

-- the same, but a group may be undone partly
pub record IsSoundInside (document : DocumentState) : Type 0 where
  pub cursor : IsPlace document.text document.cursor
  pub anchor : IfSome document.anchor (IsPlace document.text)
  pub ranges : AreValid (lines document.text) document.ranges
  pub in_order : AreInOrder document.ranges
  pub log : IsSoundLog (logged document)
  pub past : ArePastRanges (texts_before document.text document.log.done document.log.undone) document.past_ranges
