use Rattle.std.proofs.Common.{◌<◌, ◌≤◌, arith, length, subst}
use Rattle.std.proofs.lemmas.List.{length-map}
use Rattle.textarea_util.specs.Limit.{size_limit}
use Rattle.textarea_text.specs.Text.{characters_of}
use Rattle.textarea_blocks.specs.Sums.{size_total}
use Rattle.textarea_screen_map.specs.Map.{MapView}
use Rattle.textarea_screen_map.proofs.RowSizes.{lent_rows}
use Rattle.textarea_screen_map.proofs.screen_map.ScreenMap.visual_position.Goals as goal

pub new-requires-clause-rows : goal.new-requires-clause-rows
new-requires-clause-rows c =
    let map = c.args.self.now in
    let few : size_total map.rows ≤ size_limit = subst (λ (v : MapView). size_total v.rows ≤ size_limit) c.self.view_is c.self.invariant.limit.size in
    let some : 0 < length c.args.lines.now = omega (arith, c.requires.place.0, length-map c.args.lines.now characters_of) in
    lent_rows c.args.lines.now map c.requires.rows few some
