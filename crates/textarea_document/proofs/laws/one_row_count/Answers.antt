use Rattle.textarea_document.specs.Prelude.{lines, wrapping_at, HasRowsAt, text_and_layout}
use Rattle.textarea_document.proofs.laws.one_row_count.Goals as goal

pub returns : goal.returns
unfolding HasRowsAt
returns c = λ document inner_width. c.one_row_count.ensures (wrapping_at (text_and_layout document) inner_width) (lines document.text)
