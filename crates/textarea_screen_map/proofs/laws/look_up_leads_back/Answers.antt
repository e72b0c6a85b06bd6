use Rattle.textarea_screen_map.proofs.ThereAndBack.{is_place, visual_near, visual_there}
use Rattle.textarea_screen_map.proofs.laws.look_up_leads_back.Goals as goal

pub returns : goal.returns
returns c = record { place = is_place; visual = visual_there; near = visual_near }
