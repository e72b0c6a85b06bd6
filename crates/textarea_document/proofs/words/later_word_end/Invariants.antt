use Rattle.std.proofs.Common.{◌≡◌, ◌<◌, ℕ, false}
use Rattle.textarea_document.specs.Prelude.{lines_of, is_later_word_row}
use Rattle.textarea_document.proofs.words.later_word_end.Given as goal

abbrev pub invariant-loop-row : goal.invariant-loop-row
invariant-loop-row l = (e : ℕ) → e < l.row → is_later_word_row (lines_of l.lines) l.start e ≡ false
