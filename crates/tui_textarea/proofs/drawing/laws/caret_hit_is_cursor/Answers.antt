use Rattle.tui_textarea.proofs.CaretHit.{caret_hit}
use Rattle.tui_textarea.proofs.drawing.laws.caret_hit_is_cursor.Goals as goal

pub returns : goal.returns
returns c = caret_hit (record {
  hits_row = c.caret_hit_is_row.ensures.row;
  hits_column = c.caret_hit_is_row.ensures.column;
  corner = c.placeholder_has_its_caret_in_the_corner.ensures.corner;
  visual_row_is = c.visual_position_within.ensures.row;
  visual_column_is = c.visual_position_within.ensures.column;
  visual_round_trip = c.visual_round_trip.ensures;
  viewed_once = c.one_view.ensures;
  begins_once = c.one_row_start.ensures;
  settings_put = c.settings_stay.ensures.put;
})
