use Rattle.std.proofs.Common.{◌+◌, ◌-◌, refl}
use lib.Utf8.{encode}
use Rattle.std.specs.Prelude.{encode_utf8}
use Rattle.textarea_screen.specs.Block.{has_border, left_side, top_side, right_side, bottom_side}
use Rattle.textarea_paint.specs.Block.{on_left, on_top, on_right, on_bottom}
use Rattle.textarea_paint.proofs.BlockLemmas.{among_first, among_last, Changes-begun, Changes-border, contains-column, contains-row}
use Rattle.textarea_paint.proofs.paint.block.draw_sides.Goals as goal

pub returns-clause-ok : goal.returns-clause-ok
unfolding encode
returns-clause-ok c =
    let area = c.args.area in
    let borders = c.args.borders in
    let left =
    Changes-border area c.new-left.result _ (has_border borders left_side) (on_left area) (encode_utf8 0x2502) c.args.style (Changes-begun c.args.buffer.now area) c.in_ok-left_drawn.ensures.ok
    c.contains-has_left.ensures refl
    (contains-column area c.new-left.result area.x c.new-left.ensures.x c.new-left.ensures.width c.new-left.ensures.y c.new-left.ensures.height (among_first area.x area.width c.requires.columns)) in
    let top =
    Changes-border area c.new-top.result _ (has_border borders top_side) (on_top area) (encode_utf8 0x2500) c.args.style left c.in_ok-top_drawn.ensures.ok c.contains-has_top.ensures refl
    (contains-row area c.new-top.result area.y c.new-top.ensures.x c.new-top.ensures.width c.new-top.ensures.y c.new-top.ensures.height (among_first area.y area.height c.requires.rows)) in
    let right =
    Changes-border area c.new-right.result _ (has_border borders right_side) (on_right area) (encode_utf8 0x2502) c.args.style top c.in_ok-right_drawn.ensures.ok c.contains-has_right.ensures refl
    (contains-column area c.new-right.result (area.x + area.width - 1) c.new-right.ensures.x c.new-right.ensures.width c.new-right.ensures.y c.new-right.ensures.height (among_last area.x area.width c.requires.columns)) in
    Changes-border area c.new-bottom.result _ (has_border borders bottom_side) (on_bottom area) (encode_utf8 0x2500) c.args.style right c.in_ok-draw_border.ensures.ok c.contains-has_bottom.ensures refl
    (contains-row area c.new-bottom.result (area.y + area.height - 1) c.new-bottom.ensures.x c.new-bottom.ensures.width c.new-bottom.ensures.y c.new-bottom.ensures.height (among_last area.y area.height c.requires.rows))
