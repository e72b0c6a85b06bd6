use Rattle.textarea_screen_map.proofs.ThereAndBack.{visual_column_is, visual_row_is}
use Rattle.textarea_screen_map.proofs.laws.visual_position_within.Goals as goal

pub returns-clause-row : goal.returns-clause-row
returns-clause-row c = visual_row_is

pub returns-clause-column : goal.returns-clause-column
returns-clause-column c = visual_column_is
