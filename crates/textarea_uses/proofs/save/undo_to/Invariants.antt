use Rattle.std.proofs.Common.{◌≡◌, ◌↔◌, true}
use Rattle.std.specs.Str.{chars}
use Rattle.textarea_history.specs.Log.{done_groups}
use Rattle.tui_textarea.specs.Guards.{is_editable}
use Rattle.tui_textarea.specs.TextsBefore.{ReachesBack}
use Rattle.textarea_uses.proofs.save.undo_to.Given as goal

-- undos reach the wanted text from here exactly if they reached it from the start, and nothing keeps
-- them from being made
abbrev pub invariant-undoing : goal.invariant-undoing
invariant-undoing l = (ReachesBack l.initial.area.document (chars l.wanted) ↔ ReachesBack l.area.document (chars l.wanted)) × (is_editable l.area ≡ true)

abbrev pub decreases-undoing : goal.decreases-undoing
decreases-undoing l = done_groups l.area.document.log
