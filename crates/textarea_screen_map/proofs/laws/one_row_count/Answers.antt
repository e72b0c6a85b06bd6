use Rattle.std.proofs.Common.{◌∙◌, ap, length, max, sum_by, sym}
use Rattle.textarea_screen_map.proofs.Layouts.{ranges_same}
use Rattle.textarea_blocks.proofs.Numbers.{row_total-sum}
use Rattle.textarea_screen_map.proofs.laws.one_row_count.Goals as goal

pub returns : goal.returns
returns c = λ w lines count other h k.
    let same = ranges_same w lines h.0 k.0 (c.one_wrapping.ensures w.mode w.tab_len (max w.width 1)) h.1 k.1 in
    h.2 ∙ row_total-sum h.0 ∙ ap (sum_by length) same ∙ sym (row_total-sum k.0) ∙ sym k.2
