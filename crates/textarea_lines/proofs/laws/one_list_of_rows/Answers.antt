use Rattle.std.proofs.Common.{sym, ◌∙◌}
use Rattle.textarea_text.specs.Text.{lines}
use Rattle.textarea_lines.proofs.OneList.{rows_same}
use Rattle.textarea_lines.specs.TextLayout.{wrapping_of}
use Rattle.textarea_lines.proofs.laws.one_list_of_rows.Goals as goal

pub returns : goal.returns
returns c = λ text_layout rows others h k.
    rows_same (wrapping_of text_layout) (lines text_layout.text) rows others h.text_layout k.text_layout (c.one_map.ensures (wrapping_of text_layout) (lines text_layout.text) rows others h.text_layout k.text_layout) (h.ticks ∙ sym k.ticks)
