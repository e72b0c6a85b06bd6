use Rattle.textarea_screen_map.proofs.ThereAndBack.{visual_round_trip}
use Rattle.textarea_screen_map.proofs.laws.visual_round_trip.Goals as goal

pub returns : goal.returns
returns c = visual_round_trip
