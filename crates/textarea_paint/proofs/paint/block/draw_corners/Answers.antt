use Rattle.std.proofs.Common.{◌+◌, ◌-◌, ◌&&◌, refl, ap₂}
use lib.Utf8.{encode}
use Rattle.std.specs.Prelude.{encode_utf8}
use Rattle.textarea_paint.specs.Block.{on_left, on_top, on_right, on_bottom, on_both}
use Rattle.textarea_paint.proofs.BlockLemmas.{among_first, among_last, Changes-begun, Changes-border, contains-cell}
use Rattle.textarea_paint.proofs.paint.block.draw_corners.Goals as goal

pub returns-clause-ok : goal.returns-clause-ok
unfolding encode
returns-clause-ok c =
    let area = c.args.area in
    let left = c.contains-has_left.ensures in
    let top = c.contains-has_top.ensures in
    let right = c.contains-has_right.ensures in
    let bottom = c.contains-has_bottom.ensures in
    let at_right = area.x + area.width - 1 in
    let at_bottom = area.y + area.height - 1 in
    let in_left = among_first area.x area.width c.requires.columns in
    let in_right = among_last area.x area.width c.requires.columns in
    let in_top = among_first area.y area.height c.requires.rows in
    let in_bottom = among_last area.y area.height c.requires.rows in
    let bottom_right =
    Changes-border area c.new-bottom_right.result _ _ (on_both (on_right area) (on_bottom area)) (encode_utf8 0x2518) c.args.style (Changes-begun c.args.buffer.now area)
    c.in_ok-bottom_right_drawn.ensures.ok (ap₂ (λ a b. a && b) right bottom) refl
    (contains-cell area c.new-bottom_right.result at_right at_bottom c.new-bottom_right.ensures.x c.new-bottom_right.ensures.width c.new-bottom_right.ensures.y c.new-bottom_right.ensures.height in_right in_bottom) in
    let top_right =
    Changes-border area c.new-top_right.result _ _ (on_both (on_right area) (on_top area)) (encode_utf8 0x2510) c.args.style bottom_right
    c.in_ok-top_right_drawn.ensures.ok (ap₂ (λ a b. a && b) right top) refl
    (contains-cell area c.new-top_right.result at_right area.y c.new-top_right.ensures.x c.new-top_right.ensures.width c.new-top_right.ensures.y c.new-top_right.ensures.height in_right in_top) in
    let bottom_left =
    Changes-border area c.new-bottom_left.result _ _ (on_both (on_left area) (on_bottom area)) (encode_utf8 0x2514) c.args.style top_right
    c.in_ok-bottom_left_drawn.ensures.ok (ap₂ (λ a b. a && b) left bottom) refl
    (contains-cell area c.new-bottom_left.result area.x at_bottom c.new-bottom_left.ensures.x c.new-bottom_left.ensures.width c.new-bottom_left.ensures.y c.new-bottom_left.ensures.height in_left in_bottom) in
    Changes-border area c.new-top_left.result _ _ (on_both (on_left area) (on_top area)) (encode_utf8 0x250C) c.args.style bottom_left
    c.in_ok-draw_border.ensures.ok (ap₂ (λ a b. a && b) left top) refl
    (contains-cell area c.new-top_left.result area.x area.y c.new-top_left.ensures.x c.new-top_left.ensures.width c.new-top_left.ensures.y c.new-top_left.ensures.height in_left in_top)
