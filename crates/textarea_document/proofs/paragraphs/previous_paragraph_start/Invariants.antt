use Rattle.std.proofs.Common.{◌≡◌, ◌≤◌, ℕ, false}
use Rattle.textarea_document.specs.Prelude.{lines_of, is_earlier_paragraph_start}
use Rattle.textarea_document.proofs.paragraphs.previous_paragraph_start.Given as goal

abbrev pub invariant-loop-row : goal.invariant-loop-row
invariant-loop-row l = (e : ℕ) → l.row ≤ e → is_earlier_paragraph_start (lines_of l.lines) l.start e ≡ false
