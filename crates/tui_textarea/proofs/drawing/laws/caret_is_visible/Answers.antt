use Rattle.tui_textarea.proofs.CaretVisible.{caret_visible}
use Rattle.tui_textarea.proofs.drawing.laws.caret_is_visible.Goals as goal

pub returns : goal.returns
returns c = caret_visible (record {
  visible = c.caret_is_visible.ensures;
  wrapped_visible = c.wrapped_caret_is_visible.ensures;
  visual_row_is = c.visual_position_within.ensures.row;
  visual_column_is = c.visual_position_within.ensures.column;
  within = c.cursors_within_width.ensures;
  few_columns = c.few_columns.ensures;
  size = c.few_rows.ensures.size;
  few_rows = c.few_rows.ensures.few;
  settings_put = c.settings_stay.ensures.put;
})
