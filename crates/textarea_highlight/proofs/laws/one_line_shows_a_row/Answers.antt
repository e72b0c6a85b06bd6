use Rattle.textarea_highlight.proofs.OneRowLemmas.{one_line}
use Rattle.textarea_highlight.proofs.laws.one_line_shows_a_row.Goals as goal

pub returns : goal.returns
returns c = one_line
