use Rattle.textarea_screen_map.specs.VisualPositions.{IsAbove, IsBelow, IsInFirstRow, IsInLastRow}
use Rattle.textarea_lines.proofs.Steps.{finds_once, none_above, none_below}
use Rattle.textarea_lines.proofs.laws.one_place_up_and_down.Goals as goal

pub returns-clause-above : goal.returns-clause-above
returns-clause-above c = λ text_layout place found other.
    finds_once IsInFirstRow IsAbove text_layout place found other (c.one_list_of_rows.ensures text_layout) (none_above c.one_visual_position.ensures.visual) c.one_visual_position.ensures.above

pub returns-clause-below : goal.returns-clause-below
returns-clause-below c = λ text_layout place found other.
    finds_once IsInLastRow IsBelow text_layout place found other (c.one_list_of_rows.ensures text_layout) (none_below c.one_visual_position.ensures.visual) c.one_visual_position.ensures.below
