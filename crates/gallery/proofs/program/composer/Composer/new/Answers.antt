use Rattle.std.proofs.Common.{◌∙◌, ℕ, List, true, ap}
use Rattle.textarea_document.specs.Covered.{covered}
use Rattle.textarea_document.specs.DocumentState.{undo_ranges_set}
use Rattle.tui_textarea.specs.State.{State}
use Rattle.gallery.proofs.Tokens.{whole_none}
use Rattle.gallery.proofs.program.composer.Composer.new.Goals as goal

-- what ranges cover, once they are remembered
covered_then : State → List (List ℕ)
covered_then state = covered (undo_ranges_set state.document true)

pub returns : goal.returns
unfolding covered_then
returns c = record {
  whole = whole_none c.set_undo_ranges.new.self
      (ap (λ (state : State). covered state.document) c.set_undo_ranges.ensures
      ∙ ap covered_then c.set_cursor_line_style.ensures
      ∙ ap covered_then c.set_block.ensures
      ∙ ap covered_then c.in_ok-area.ensures);
}
