use Rattle.textarea_screen_map.proofs.Once.{one_above, one_below, one_visual_position}
use Rattle.textarea_screen_map.proofs.laws.one_visual_position.Goals as goal

pub returns : goal.returns
returns c = record { visual = one_visual_position; above = one_above; below = one_below }
