use Rattle.textarea_lines.proofs.Stores.{layout_as}
use Rattle.textarea_lines.proofs.text_layout.TextLayout.row_count.Goals as goal

pub returns : goal.returns
returns c = (c.self.inside.map.rows, layout_as _ _ _ _ _ _ c.self.invariant.contents c.self.view_is, c.row_count.ensures)
