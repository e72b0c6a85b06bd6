use Rattle.std.proofs.Common.{◌∙◌}
use Rattle.std.proofs.lemmas.Str.{encodes-chars}
use Rattle.textarea_view.proofs.scene.row_context.RowContext.begin.Goals as goal

pub returns : goal.returns
returns c = rw (encodes-chars c.args.text.now c.utf8.text, ← c.self.view_is, ← c.scene.view_is) (c.set_mark.ensures ∙ (rw (c.cursor_cell.ensures, c.tab_len.ensures, ← c.scene.view_is) at c.restart.ensures))
