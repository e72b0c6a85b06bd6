use Rattle.textarea_screen_map.proofs.ThereAndBack.{one_place}
use Rattle.textarea_screen_map.proofs.laws.one_place.Goals as goal

pub returns : goal.returns
returns c = one_place
